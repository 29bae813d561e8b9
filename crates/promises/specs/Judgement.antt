-- The judgement call: 1 to 5, then 13 to 18 in number order, or earliest. It speaks of infinite sets, so it is a relation. Definitions only.
use Rattle.std.specs.Prelude.{◌≡◌, List, ℕ}
use Rattle.words.specs.Reply.{Reply, given, refusal}
use Rattle.machine.specs.Machine.{Table}
use Rattle.machine.specs.Verdict.{Verdict, earliest, late_as, Judged}
use Rattle.text.specs.Reading.{read_table}

-- v is the verdict on the table that was read, or the refusal of the reading.
abbrev pub JudgedReading : Reply Table → Verdict → Type 0
JudgedReading (given M) v = Judged M v
JudgedReading (refusal x) v = v ≡ late_as x

-- v is the answer of the judgement call for a table text.
abbrev pub JudgementAnswer : List ℕ → Verdict → Type 0
JudgementAnswer text v = JudgedReading (read_table text) v
