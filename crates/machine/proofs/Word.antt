-- The word of a state on a tree taken apart, and put together.
use mathlib.Core.Path.{◌≡◌, refl, sym, ap, ◌∙◌}
use mathlib.Core.List.{List, [], ◌∷◌, ◌++◌}
use mathlib.Core.Option.{Option, none, some, some-injective, none-ne-some}
use Prim.Native.Nat.{ℕ}
use Rattle.words.specs.Word.{Word, ◌⊕◌}
use Rattle.words.proofs.Cut.{right_of, both_of}
use Rattle.machine.specs.Machine.{Tree, Forest, node, ∅, ◌▸◌, Child, Rule, Table, find, apply, word, words}

-- Where a rule writes a word, the rule is there and its rest has a word.
applied : (o : Option Rule) (k : List Child → Option Word) (w : Word) → apply o k ≡ some w
    → (r : Rule) × (v : Word) × (o ≡ some r) × (k r.rest ≡ some v) × (w ≡ r.first ++ v)
applied none k w e = absurd (none-ne-some w e)
applied (some r) k w e = let v = right_of r.first (k r.rest) w e in (r, v.0, refl, v.1, sym v.2)

module _ (M : Table) where
  -- A word of a state is its rule's first word and a word of the rule's rest.
  pub word_parts : (q f : ℕ) (ts : Forest) (w : Word) → word M q (node f ts) ≡ some w
      → (r : Rule) × (v : Word) × (find M.rows q f ≡ some r) × (words M ts r.rest ≡ some v) × (w ≡ r.first ++ v)
  unfolding word
  word_parts q f ts w e = applied (find M.rows q f) (λ cs. words M ts cs) w e

  -- The rest of a rule without children writes the empty word.
  pub words_nil : (ts : Forest) (w : Word) → words M ts [] ≡ some w → (ts ≡ ∅) × (w ≡ [])
  unfolding words
  words_nil ∅ w e = (refl, sym (some-injective _ _ e))
  words_nil (t ▸ ts) w e = absurd (none-ne-some w e)

  -- A word of the rest of a rule is a word of its first child's state, the word after it, and a word of what follows.
  pub words_parts : (ts : Forest) (c : Child) (cs : List Child) (w : Word) → words M ts (c ∷ cs) ≡ some w
      → (t : Tree) × (us : Forest) × (x : Word) × (y : Word)
      × (ts ≡ t ▸ us) × (word M c.state t ≡ some x) × (words M us cs ≡ some y) × (w ≡ x ++ (c.after ++ y))
  unfolding words
  words_parts ∅ c cs w e = absurd (none-ne-some w e)
  words_parts (t ▸ ts) c cs w e =
      let a = both_of (word M c.state t) (some c.after ⊕ words M ts cs) w e in
      let b = right_of c.after (words M ts cs) a.1 a.3 in
      (t, ts, a.0, b.0, refl, a.2, b.1, sym a.4 ∙ ap (λ z. a.0 ++ z) (sym b.2))

  -- A rule and a word of its rest give a word of the state.
  pub word_join : (q f : ℕ) (ts : Forest) (r : Rule) (v : Word) → find M.rows q f ≡ some r → words M ts r.rest ≡ some v
      → word M q (node f ts) ≡ some (r.first ++ v)
  unfolding word
  word_join q f ts r v e h = rw (e, h)

  -- A word of the first child's state and a word of what follows give a word of the rest.
  pub words_join : (t : Tree) (ts : Forest) (c : Child) (cs : List Child) (x y : Word)
      → word M c.state t ≡ some x → words M ts cs ≡ some y
      → words M (t ▸ ts) (c ∷ cs) ≡ some (x ++ (c.after ++ y))
  unfolding words
  words_join t ts c cs x y e h = rw (e, h)
