-- The table of values: at each character it has the value of the digit, 16 where the character is none.
use mathlib.Core.Path.{◌≡◌, refl, sym, subst, ap, ◌∙◌}
use mathlib.Core.Bool.{Bool, true, false}
use mathlib.Core.List.{List, [], ◌∷◌}
use mathlib.Core.Option.{Option, none, some}
use Prim.Native.Nat.{ℕ, zero, suc, ◌+◌, ◌<◌, ◌≤◌}
use native.Mathlib.Nat.{add-zero, zero-add, add-suc, suc-add, le_of_suc-le-suc, not-suc-le-zero}
use native.Mathlib.Omega.{arith}
use lib.Dec.{T, eqb, eqb→eq}
use lib.ListN.{length, get_or}
use Rattle.text.specs.Lines.{digit}
use Rattle.text.proofs.Digits.{digit_inv, digit_of_feed}
use Rattle.lines.specs.Scan.{value_or16, Valued}

-- ---- a test of each entry of a list

-- Both tests pass.
abbrev pub both : Bool → Bool → Bool
both true b = b
both false b = false

both_left : (a b : Bool) → T (both a b) → T a
both_left true b t = tt
both_left false b t = t

both_right : (a b : Bool) → T (both a b) → T b
both_right true b t = t
both_right false b t = absurd t

-- The test passes at each entry and its place, counted from i.
abbrev pub every : (ℕ → ℕ → Bool) → ℕ → List ℕ → Bool
every f i [] = true
every f i (x ∷ xs) = both (f i x) (every f (suc i) xs)

-- So it passes at the entry that stands k behind the first.
every_from : (f : ℕ → ℕ → Bool) (xs : List ℕ) (i : ℕ) → T (every f i xs) → (k : ℕ) → k < length xs → T (f (i + k) (get_or xs k 0))
every_from f [] i t k h = absurd (not-suc-le-zero h)
every_from f (x ∷ xs) i t zero h = subst (λ (m : ℕ). T (f m x)) (sym (add-zero i)) (both_left (f i x) (every f (suc i) xs) t)
every_from f (x ∷ xs) i t (suc k) h =
    subst (λ (m : ℕ). T (f m (get_or xs k 0))) (suc-add i k ∙ sym (add-suc i k))
    (every_from f xs (suc i) (both_right (f i x) (every f (suc i) xs) t) k (le_of_suc-le-suc h))

every_at : (f : ℕ → ℕ → Bool) (xs : List ℕ) → T (every f 0 xs) → (k : ℕ) → k < length xs → T (f k (get_or xs k 0))
every_at f xs t k h = subst (λ (m : ℕ). T (f m (get_or xs k 0))) (zero-add k) (every_from f xs 0 t k h)

-- ---- the table

-- Whether v is the value of the character c.
unfoldable pub right : ℕ → ℕ → Bool
right c v = eqb v (value_or16 (digit c))

-- A table that passes the test has each character's value.
pub right_valued : (vs : List ℕ) → length vs ≡ 256 → T (every right 0 vs) → Valued vs
unfolding right
right_valued vs e t = record { value = λ c h. eqb→eq (get_or vs c 0) (value_or16 (digit c)) (every_at right vs t c (omega arith)) }

-- An entry below 16 is a digit's: the one of character c.
pub value_digit : (vs : List ℕ) (i c : ℕ) → Valued vs → i ≡ c → c < 256 → get_or vs i 0 ≤ 15 → digit c ≡ some (get_or vs i 0)
value_digit vs i c t e h k = rw (← e) (go (digit i) (t.value i (omega arith)))
  where
    go : (o : Option ℕ) → get_or vs i 0 ≡ value_or16 o → o ≡ some (get_or vs i 0)
    go (some w) e = ap some (sym e)
    go none e = absurd (omega arith)

-- Any other is no digit's.
pub value_none : (vs : List ℕ) (i c : ℕ) → Valued vs → i ≡ c → c < 256 → 15 < get_or vs i 0 → digit c ≡ none
value_none vs i c t e h k = rw (← e) (go (digit i) refl (t.value i (omega arith)))
  where
    go : (o : Option ℕ) → digit i ≡ o → get_or vs i 0 ≡ value_or16 o → o ≡ none
    go (some w) d e = absurd (omega (arith, (digit_inv i w d).0))
    go none d e = refl

-- A 0a is no digit.
pub digit_feed : (c v : ℕ) → digit c ≡ some v → c ≡ 10 → ⊥
digit_feed c v d e = digit_of_feed v (sym (digit_inv c v d).1 ∙ e)
