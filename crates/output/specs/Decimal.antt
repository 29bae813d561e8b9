-- Numbers in decimal. Definitions only.
use Rattle.std.specs.Prelude.{true, false, List, ℕ, zero, suc, ◌/◌, ltb}
use Rattle.io.specs.Digits.{last_digits}

-- How many decimal digits n has; `most` is any number that is not below n.
unfoldable pub places : ℕ → ℕ → ℕ
places zero n = 1
places (suc most) n = elim (ltb n 10) [ true ↦ 1 | false ↦ suc (places most (n / 10)) ]

-- A number in decimal.
unfoldable pub decimal : ℕ → List ℕ
decimal n = last_digits 10 (places n n) n
