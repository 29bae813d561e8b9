-- Counts. Definitions only.
use Rattle.std.specs.Prelude.{List, [], ◌∷◌, ℕ, ◌+◌, min}

-- A number, or the largest of 64 bits where it passes that.
abbrev pub capped : ℕ → ℕ
capped n = min n 18446744073709551615

-- The sum of a list.
unfoldable pub sum : List ℕ → ℕ
sum [] = 0
sum (k ∷ ks) = k + sum ks
