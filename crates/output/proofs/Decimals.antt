-- Numbers in decimal: as many digits as the number needs. Assumes nothing.
use mathlib.Core.Path.{◌≡◌, refl, ap, ◌∙◌}
use mathlib.Core.Bool.{Bool, true, false}
use mathlib.Core.List.{List}
use Prim.Native.Nat.{ℕ, zero, suc, ◌-◌, ◌*◌, ◌/◌, ◌^◌, ◌<◌, ◌≤◌}
use native.Mathlib.Nat.{pow-suc, one-le-pow}
use native.Mathlib.Omega.{arith}
use borrow.Author.Tests.{ltb-true, ltb-false}
use lib.Dec.{ltb}
use Rattle.io.specs.Digits.{last_digits, IsDigitCount}
use Rattle.output.specs.Decimal.{places, decimal}

-- A power of ten is ten times the one before.
ten_times : (j : ℕ) → 10 ^ suc j ≡ 10 ^ j * 10
ten_times j = pow-suc 10 j

-- One less than the next number.
sub_one : (j : ℕ) → suc j - 1 ≡ j
sub_one j = omega arith

-- The fewest digits that hold n are as many as it has places.
fewest_places : (most n k : ℕ) → n ≤ most → IsDigitCount 10 1 n k → k ≡ places most n
unfolding places
fewest_places zero n zero h f = absurd (none f)
  where
    none : IsDigitCount 10 1 n zero → ⊥
    none g = omega (arith, g.0)
fewest_places zero n (suc zero) h f = refl
fewest_places zero n (suc (suc j)) h f = absurd (few f)
  where
    few : IsDigitCount 10 1 n (suc (suc j)) → ⊥
    few g = let low : 10 ^ suc j ≤ n = simp sub_one at (g.2 (omega arith)) in omega (arith, ten_times j, one-le-pow j 10 (omega arith))
fewest_places (suc most) n k h f = go (ltb n 10) refl k f (λ j i g. fewest_places most (n / 10) j i g)
  where
    go : (b : Bool) → ltb n 10 ≡ b → (k : ℕ) → IsDigitCount 10 1 n k
        → ((j : ℕ) → n / 10 ≤ most → IsDigitCount 10 1 (n / 10) j → j ≡ places most (n / 10))
        → k ≡ elim b as (λ x. ℕ) [ true ↦ 1 | false ↦ suc (places most (n / 10)) ]
    go b e zero g rest = absurd (omega (arith, g.0))
    go true e (suc zero) g rest = refl
    go true e (suc (suc j)) g rest =
        let low : 10 ^ suc j ≤ n = simp sub_one at (g.2 (omega arith)) in
        absurd (omega (arith, ltb-true n 10 e, ten_times j, one-le-pow j 10 (omega arith)))
    go false e (suc zero) g rest = absurd (omega (arith, ltb-false n 10 e, g.1, ten_times 0))
    go false e (suc (suc j)) g rest =
        let l : 10 ≤ n = ltb-false n 10 e in
        let p = ten_times (suc j) in
        let q = ten_times j in
        let top = g.1 in
        let low : 10 ^ suc j ≤ n = simp sub_one at (g.2 (omega arith)) in
        ap suc (rest (suc j) (omega arith) (omega arith, omega arith, λ (i : 1 < suc j). rw sub_one (omega arith)))

-- What `io::decimal` spells is the number in decimal.
pub spelt_decimal : (n k : ℕ) (t : List ℕ) → IsDigitCount 10 1 n k → t ≡ last_digits 10 k n → t ≡ decimal n
unfolding decimal
spelt_decimal n k t f e = e ∙ ap (λ (j : ℕ). last_digits 10 j n) (fewest_places n n k (omega arith) f)
