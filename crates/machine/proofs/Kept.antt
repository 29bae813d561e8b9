-- A relation that rules keep relates only states with the same words; and twins by every number of rounds are such a relation.
use mathlib.Core.Path.{◌≡◌, refl}
use mathlib.Core.List.{List, [], ◌∷◌}
use mathlib.Core.Option.{Option, none, some}
use Prim.Native.Nat.{ℕ, zero, suc}
use Rattle.words.specs.Word.{Word}
use Rattle.machine.specs.Machine.{Tree, Forest, node, ∅, ◌▸◌, Child, Rule, Table, find, apply, word, words}
use Rattle.machine.specs.Same.{Same}
use Rattle.machine.specs.Twins.{Rests, Rules, RulesKeep, Twin}

-- ---- relations on states, carried over to rules
-- Rests that match under a relation match under a wider one.
rests_map : (R S : ℕ → ℕ → Type 0) → ((q r : ℕ) → R q r → S q r) → (cs ds : List Child) → Rests R cs ds → Rests S cs ds
rests_map R S f [] [] h = tt
rests_map R S f [] (d ∷ ds) h = h
rests_map R S f (c ∷ cs) [] h = h
rests_map R S f (c ∷ cs) (d ∷ ds) h = (f c.state d.state h.0, h.1, rests_map R S f cs ds h.2)

-- Rules that match under a relation match under a wider one.
pub rules_map : (R S : ℕ → ℕ → Type 0) → ((q r : ℕ) → R q r → S q r) → (a b : Option Rule) → Rules R a b → Rules S a b
rules_map R S f none none h = tt
rules_map R S f none (some b) h = h
rules_map R S f (some a) none h = h
rules_map R S f (some a) (some b) h = (h.0, rests_map R S f a.rest b.rest h.1)

module _ (R : ℕ → ℕ → ℕ → Type 0) where
  -- Related by R at every number of rounds.
  abbrev All : ℕ → ℕ → Type 0
  All q r = (k : ℕ) → R k q r

  -- Rests that match at every number of rounds match under all of them at once.
  rests_all : (cs ds : List Child) → ((k : ℕ) → Rests (R k) cs ds) → Rests All cs ds
  rests_all [] [] h = tt
  rests_all [] (d ∷ ds) h = h 0
  rests_all (c ∷ cs) [] h = h 0
  rests_all (c ∷ cs) (d ∷ ds) h = (λ k. (h k).0, (h 0).1, rests_all cs ds (λ k. (h k).2))

  -- Rules that match at every number of rounds match under all of them at once.
  rules_all : (a b : Option Rule) → ((k : ℕ) → Rules (R k) a b) → Rules All a b
  rules_all none none h = tt
  rules_all none (some b) h = h 0
  rules_all (some a) none h = h 0
  rules_all (some a) (some b) h = ((h 0).0, rests_all a.rest b.rest (λ k. (h k).1))

module _ (M N : Table) where
  module _ (R : ℕ → ℕ → Type 0) (kept : RulesKeep M N R) where
    -- Matching rules write the same where their rests do.
    applied : (a b : Option Rule) (k l : List Child → Option Word) → Rules R a b
        → ((cs ds : List Child) → Rests R cs ds → k cs ≡ l ds)
        → apply a k ≡ apply b l
    applied none none k l h e = refl
    applied none (some b) k l h e = absurd h
    applied (some a) none k l h e = absurd h
    applied (some a) (some b) k l h e = rw (h.0, e a.rest b.rest h.1)

    mutual
      unfolding word

      -- On each tree related states have one word.
      kept_word : (t : Tree) (q r : ℕ) → R q r → word M q t ≡ word N r t
      kept_word (node f ts) q r h =
          applied (find M.rows q f) (find N.rows r f) (λ cs. words M ts cs) (λ ds. words N ts ds)
          (kept q r h f) (λ cs ds s. kept_words ts cs ds s)

      -- On each list of trees matching rests have one word.
      kept_words : (ts : Forest) (cs ds : List Child) → Rests R cs ds → words M ts cs ≡ words N ts ds
      kept_words ∅ [] [] h = refl
      kept_words ∅ [] (d ∷ ds) h = absurd h
      kept_words ∅ (c ∷ cs) [] h = absurd h
      kept_words ∅ (c ∷ cs) (d ∷ ds) h = refl
      kept_words (t ▸ ts) [] [] h = refl
      kept_words (t ▸ ts) [] (d ∷ ds) h = absurd h
      kept_words (t ▸ ts) (c ∷ cs) [] h = absurd h
      kept_words (t ▸ ts) (c ∷ cs) (d ∷ ds) h = rw (kept_word t c.state d.state h.0, h.1, kept_words ts cs ds h.2)

    -- A relation that rules keep relates only states with the same words on all trees.
    pub kept_same : (q r : ℕ) → R q r → Same M N q r
    kept_same q r h t = kept_word t q r h

    -- It relates only twins, by any number of rounds.
    pub kept_twin : (k q r : ℕ) → R q r → Twin M N k q r
    kept_twin zero q r h = tt
    kept_twin (suc k) q r h = λ f. rules_map R (Twin M N k) (kept_twin k) (find M.rows q f) (find N.rows r f) (kept q r h f)

  -- States that are twins by every number of rounds have the same words.
  pub twin_same : (q r : ℕ) → ((k : ℕ) → Twin M N k q r) → Same M N q r
  twin_same q r h =
      kept_same (All (Twin M N)) (λ p s g f. rules_all (Twin M N) (find M.rows p f) (find N.rows s f) (λ k. g (suc k) f)) q r h
