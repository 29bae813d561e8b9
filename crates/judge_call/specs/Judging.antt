-- What judging a table text answers. Definitions only.
use Rattle.std.specs.Prelude.{◌≡◌, List, ℕ}
use Rattle.words.specs.Reply.{Reply, given}
use Rattle.machine.specs.Machine.{Table}
use Rattle.machine.specs.Earliest.{Earliest}
use Rattle.text.specs.Reading.{read_table}
use Rattle.promises.specs.Judgement.{JudgementAnswer}
use Rattle.layout.specs.Layout.{Opened}
use Rattle.verdict.specs.Judgement.{verdict_of}

-- A text that is read as an earliest table, which the lent bytes F and numbers I are.
pub record EarliestIn (text F I : List ℕ) : Type 0 where
  pub table : Table
  pub read : read_table text ≡ given table
  pub opened : Opened F I table
  pub earliest : Earliest table

-- The judgement call's answer for the text; where it is earliest, what was lent is the opened table.
pub record Judges (text F I : List ℕ) (r : Reply (Unit {0})) : Type 0 where
  pub answer : JudgementAnswer text (verdict_of r)
  pub opened : r ≡ given tt → EarliestIn text F I
