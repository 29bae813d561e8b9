-- A table whose rows are rows of another by number, each used at most once. Definitions only.
use Rattle.std.specs.Prelude.{◌≡◌, List, [], ◌∷◌, ℕ, zero, ◌+◌, ◌≤◌}
use Rattle.machine.specs.Machine.{Row, Table}
use Rattle.machine.specs.Form.{renumber}
use Rattle.form_laws.specs.Pairs.{Pairs}

-- The sum of a measure over rows.
abbrev pub total : (Row → ℕ) → List Row → ℕ
total size [] = zero
total size (r ∷ rs) = size r + total size rs

-- Row s is row r by some numbers: it has the symbol and all words of r.
abbrev pub ByNumber : Row → Row → Type 0
ByNumber r s = (number : ℕ → ℕ) × (i : ℕ) × (s ≡ renumber number i r)

-- The rows of F are rows of M by number, and no row is used twice: whatever is summed over the used rows, it is at most the sum over all rows of M.
pub record Shrunk (M F : Table) : Type 0 where
  pub used : List Row
  pub numbered : Pairs ByNumber used F.rows
  pub once : (size : Row → ℕ) → total size used ≤ total size M.rows
