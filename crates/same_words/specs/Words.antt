-- What comparing the words of two rules is about. Definitions only.
use Rattle.std.specs.Prelude.{List, ℕ}
use Rattle.machine.specs.Machine.{Row, Table}
use Rattle.layout.specs.Layout.{Opened}
use Rattle.layout.specs.Leaves.{RowAt, Encodes}

-- Any two states: where they are the only ones compared, rules match if they have as many children and the same words in turn.
abbrev pub Any : ℕ → ℕ → Type 0
Any p s = Unit {0}

-- The opened table M has the row a, and the number x tells its rule.
pub record RowIn (F I : List ℕ) (M : Table) (a : Row) (x : ℕ) : Type 0 where
  pub opened : Opened F I M
  pub number : ℕ
  pub row : RowAt M number a
  pub holds : Encodes x number a.rule
