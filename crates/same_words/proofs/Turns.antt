-- Words compared in turn: what is left to compare decides what all of them do.
use mathlib.Core.Path.{◌≡◌, refl, ap, ap₂}
use mathlib.Core.Bool.{Bool}
use mathlib.Core.Logic.{◌↔◌}
use mathlib.Core.List.{List, [], ◌∷◌}
use Prim.Native.Nat.{ℕ, suc, ◌+◌, ◌-◌, ◌<◌}
use native.Mathlib.Omega.{arith}
use lib.ListN.{length}
use Rattle.words.specs.Word.{Word}
use Rattle.words.specs.Told.{Told}
use Rattle.words.proofs.Told.{told_map}
use Rattle.machine.specs.Machine.{Child, Rule}
use Rattle.machine.specs.Twins.{Rests}
use Rattle.layout.specs.Layout.{rest_letters, rule_letters}
use Rattle.layout.specs.Leaves.{Spot}
use Rattle.same_words.specs.Words.{Any}

-- What stands at spots a and b, with so many children behind each, decides P.
pub record WordsLeft (F G : List ℕ) (a b left : ℕ) (P : Type 0) : Type 0 where
  pub one : Word
  pub other : Word
  pub cs : List Child
  pub ds : List Child
  pub here : Spot F one cs a
  pub there : Spot G other ds b
  pub mine : left ≡ length cs
  pub others : left ≡ length ds
  pub decides : ((one ≡ other) × Rests Any cs ds) ↔ P

-- From spot a on, one child further on, is spot b.
abbrev pub ChildFurther : List ℕ → ℕ → ℕ → Type 0
ChildFurther F a b = (u : Word) (c : Child) (cs : List Child) → Spot F u (c ∷ cs) a → Spot F c.after cs b

module _ {F G : List ℕ} {a b left : ℕ} {P : Type 0} (l : WordsLeft F G a b left P) where
  -- One child further on, where the words are equal.
  pub words_next : {a' b' : ℕ} → 0 < left → l.one ≡ l.other → ChildFurther F a a' → ChildFurther G b b' → WordsLeft F G a' b' (left - 1) P
  words_next {a'} {b'} n e h k = go l.cs l.ds l.here l.there l.mine l.others l.decides
    where
      go : (cs ds : List Child) → Spot F l.one cs a → Spot G l.other ds b → left ≡ length cs → left ≡ length ds
          → (((l.one ≡ l.other) × Rests Any cs ds) ↔ P) → WordsLeft F G a' b' (left - 1) P
      go [] ds s t m o i = absurd (omega arith)
      go (c ∷ cs) [] s t m o i = absurd (omega arith)
      go (c ∷ cs) (d ∷ ds) s t m o i =
          record {
            one = c.after;
            other = d.after;
            cs = cs;
            ds = ds;
            here = h l.one c cs s;
            there = k l.other d ds t;
            mine = omega arith;
            others = omega arith;
            decides = (λ w. i.0 (e, (tt, w.0, w.1)), λ p. let z = i.1 p in (z.1.1, z.1.2));
          }

  -- Where no child is left, the words decide.
  pub words_last : {z : Bool} → left ≡ 0 → Told (l.one ≡ l.other) z → Told P z
  words_last n t = told_map (λ e. l.decides.0 (e, none l.cs l.ds l.mine l.others)) (λ p. (l.decides.1 p).0) t
    where
      none : (cs ds : List Child) → left ≡ length cs → left ≡ length ds → Rests Any cs ds
      none [] [] m o = tt
      none [] (d ∷ ds) m o = absurd (omega arith)
      none (c ∷ cs) ds m o = absurd (omega arith)

-- All of it is left.
pub words_all : {F G : List ℕ} {a b left : ℕ} (u v : Word) (cs ds : List Child) → Spot F u cs a → Spot G v ds b → left ≡ length cs → left ≡ length ds
    → WordsLeft F G a b left ((u ≡ v) × Rests Any cs ds)
words_all u v cs ds s t m o =
    record { one = u; other = v; cs = cs; ds = ds; here = s; there = t; mine = m; others = o; decides = (λ h. h, λ h. h) }

module _ (R : ℕ → ℕ → Type 0) where
  -- Rests that match have as many children.
  pub rests_length : (cs ds : List Child) → Rests R cs ds → length cs ≡ length ds
  rests_length [] [] h = refl
  rests_length [] (d ∷ ds) h = absurd h
  rests_length (c ∷ cs) [] h = absurd h
  rests_length (c ∷ cs) (d ∷ ds) h = ap suc (rests_length cs ds h.2)

  -- Rests that match write as many letters.
  rests_letters : (cs ds : List Child) → Rests R cs ds → rest_letters cs ≡ rest_letters ds
  unfolding rest_letters
  rests_letters [] [] h = refl
  rests_letters [] (d ∷ ds) h = absurd h
  rests_letters (c ∷ cs) [] h = absurd h
  rests_letters (c ∷ cs) (d ∷ ds) h = ap₂ (λ (m n : ℕ). m + n) (ap length h.1) (rests_letters cs ds h.2)

  -- So do rules that match.
  pub rules_letters : (a b : Rule) → a.first ≡ b.first → Rests R a.rest b.rest → rule_letters a ≡ rule_letters b
  unfolding rule_letters
  rules_letters a b e h = ap₂ (λ (m n : ℕ). m + n) (ap length e) (rests_letters a.rest b.rest h)
