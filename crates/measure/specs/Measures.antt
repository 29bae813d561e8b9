-- What measuring answers. Definitions only.
use Rattle.std.specs.Prelude.{List, ℕ, ◌<◌, ◌≤◌, length, Option, Some, None}
use Rattle.trees.specs.Shape.{tree_most}
use Rattle.machine.specs.Machine.{Table}
use Rattle.walk.specs.Plan.{Counted}
use Rattle.walk.specs.Walked.{Wordless}

-- What a measure says: where it counted, that; where it did not, that the bytes are no tree with a word.
abbrev pub MeasureOf : List ℕ → List ℕ → List ℕ → Table → ℕ → Option ℕ → Type 0
MeasureOf F S P M q (Some letters) = Counted F S P M q letters
MeasureOf F S P M q None = Wordless M S q

-- Tree bytes S of a length that is read, and a plan P with a place for each of them.
pub record Measurable (S P : List ℕ) : Type 0 where
  pub some : 0 < length S
  pub short : length S ≤ tree_most
  pub places : length S ≤ length P
