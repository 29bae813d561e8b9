-- What the parts of a comparison are about. Definitions only.
use Rattle.std.specs.Prelude.{◌≡◌, ℕ}
use Rattle.machine.specs.Machine.{Row, Table}
use Rattle.layout.specs.Leaves.{RowAt}

-- Row number i is a, a row of state q.
pub record RowOf (M : Table) (q i : ℕ) (a : Row) : Type 0 where
  pub row : RowAt M i a
  pub state : a.state ≡ q
