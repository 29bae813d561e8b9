-- The form call: 1 to 5, 13 to 18, then 12; else the form's text. It speaks of infinite sets, so it is a relation. Definitions only.
use Rattle.std.specs.Prelude.{◌≡◌, List, ℕ}
use Rattle.words.specs.Reply.{Reply, given, refusal}
use Rattle.machine.specs.Machine.{Table}
use Rattle.machine.specs.Verdict.{earliest, late_as}
use Rattle.machine.specs.Form.{IsForm}
use Rattle.text.specs.Reading.{read_table}
use Rattle.text.specs.Writing.{write_table}
use Rattle.promises.specs.Room.{into, filled}
use Rattle.promises.specs.Judgement.{JudgementAnswer}

-- The table text is that of an earliest table M, and F is its form.
pub record FormOfText (text : List ℕ) (F : Table) : Type 0 where
  pub table : Table
  pub read : read_table text ≡ given table
  pub judged : JudgementAnswer text earliest
  pub form : IsForm table F

-- a is the form's text, or the refusal of the text or of the judgement.
abbrev pub FormText : List ℕ → Reply (List ℕ) → Type 0
FormText text (given out) = (F : Table) × FormOfText text F × (out ≡ write_table F)
FormText text (refusal x) = JudgementAnswer text (late_as x)

-- a is the answer of the form call for a table text and so many bytes of room.
abbrev pub FormAnswer : List ℕ → ℕ → Reply (List ℕ) → Type 0
FormAnswer text room a = (b : Reply (List ℕ)) × FormText text b × (a ≡ into room b)

-- The room after the form call, by its answer: `filled`.
abbrev pub form_room : List ℕ → Reply (List ℕ) → List ℕ
form_room room a = filled room a
