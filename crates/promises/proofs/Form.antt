-- Exactly when a form is given, and exactly when it is refused: 12 comes last. Assumes nothing.
use mathlib.Core.Path.{◌≡◌, refl, sym, subst}
use mathlib.Core.List.{List, ◌++◌}
use mathlib.Core.Logic.{◌⊎◌, inl, inr, ⊎_elim, ◌↔◌}
use Prim.Native.Nat.{ℕ, ◌≤◌}
use lib.ListN.{length, drop}
use Rattle.words.specs.Reply.{Reply, given, refused}
use Rattle.machine.specs.Machine.{Table}
use Rattle.machine.specs.Earliest.{Earliest}
use Rattle.machine.specs.Verdict.{earliest, late}
use Rattle.machine.specs.Form.{IsForm}
use Rattle.machine.proofs.Judged.{judged_earliest}
use Rattle.text.specs.Reading.{read_table}
use Rattle.text.specs.Writing.{write_table}
use Rattle.promises.specs.Judgement.{JudgementAnswer}
use Rattle.promises.specs.Form.{FormText, FormAnswer, form_room}
use Rattle.promises.proofs.Judgement.{judged_as, judged_from}
use Rattle.promises.proofs.Room.{TooLong, into_given, into_refused}

-- The text is read as an earliest table, and out is the text of its form.
pub record FormWritten (text out : List ℕ) : Type 0 where
  pub table : Table
  pub read : read_table text ≡ given table
  pub earliest_table : Earliest table
  pub form : Table
  pub is : IsForm table form
  pub written : out ≡ write_table form

-- A text has a form exactly if it is that of an earliest table.
pub form_text : (text out : List ℕ) → FormText text (given out) ↔ FormWritten text out
form_text text out = (
  λ h.
      let f = h.1 in
      record {
        table = f.table;
        read = f.read;
        earliest_table = (judged_earliest f.table).0 (judged_as text f.table earliest f.read f.judged);
        form = h.0;
        is = f.form;
        written = h.2;
      },
  λ h.
      let j = judged_from text h.table earliest h.read ((judged_earliest h.table).1 h.earliest_table) in
      (h.form, record { table = h.table; read = h.read; judged = j; form = h.is }, h.written),
)

-- A form is given exactly if the text has it and it has room.
pub form_given : (text : List ℕ) (room : ℕ) (out : List ℕ)
    → FormAnswer text room (given out) ↔ (FormText text (given out) × (length out ≤ room))
form_given text room out = (
  λ h.
      let i = (into_given room h.0 out).0 (sym h.2) in
      (subst (FormText text) i.0 h.1, i.1),
  λ h. (given out, h.0, sym ((into_given room (given out) out).1 (refl, h.1))),
)

-- The form's text is longer than the room.
abbrev pub FormTooLong : List ℕ → ℕ → ℕ → ℕ → Type 0
FormTooLong text room n p = (b : Reply (List ℕ)) × FormText text b × TooLong room b n p

-- A form is refused exactly as the judgement refuses the text, or with 12 if its text is longer than the room.
pub form_refused : (text : List ℕ) (room n p : ℕ) → FormAnswer text room (refused n p) ↔ (JudgementAnswer text (late n p) ⊎ FormTooLong text room n p)
form_refused text room n p = (there, back)
  where
    there : FormAnswer text room (refused n p) → JudgementAnswer text (late n p) ⊎ FormTooLong text room n p
    there h =
        ⊎_elim (λ i. inl (subst (FormText text) i h.1)) (λ i. inr (h.0, h.1, i)) ((into_refused room h.0 n p).0 (sym h.2))

    back : JudgementAnswer text (late n p) ⊎ FormTooLong text room n p → FormAnswer text room (refused n p)
    back (inl h) = (refused n p, h, refl)
    back (inr h) = (h.0, h.1, sym ((into_refused room h.0 n p).1 (inr h.2)))

-- After the form call the room begins with the form's text and is else as it was; after a refusal it is as it was.
pub form_room_lem : (room out : List ℕ) (n p : ℕ)
    → (form_room room (given out) ≡ out ++ drop (length out) room) × (form_room room (refused n p) ≡ room)
form_room_lem room out n p = (refl, refl)
