-- From the judgement of a text and the form of its table to the answer for the text. Assumes nothing.
use mathlib.Core.Path.{◌≡◌, refl, sym, ap, subst, ◌∙◌}
use mathlib.Core.List.{List}
use Prim.Native.Nat.{ℕ}
use lib.ListN.{length}
use Rattle.words.specs.declared.No.{No}
use Rattle.words.specs.Reply.{Reply, given, refusal}
use Rattle.machine.specs.Earliest.{Earliest}
use Rattle.text.specs.Writing.{write_table}
use Rattle.promises.specs.Room.{into}
use Rattle.layout.specs.Layout.{Meant}
use Rattle.judge_call.specs.Judging.{Judges}
use Rattle.judge_call.proofs.Readings.{judged_late, judged_early}
use Rattle.form_call.specs.Formed.{FormAnswered, FormInto}

module _ {F I T R : List ℕ} {j : Reply (Unit {0})} {r : Reply ℕ} (h : Judges T F I j) where
  -- The form call of a text that is not judged earliest: the refusal is handed on, and the room is as it was.
  pub late_answers : (x : No) → j ≡ refusal x → r ≡ refusal x → FormAnswered T R R r
  late_answers x e er =
      record { reply = refusal x; answer = (refusal x, judged_late x h e, refl); told = er; room = refl }

  -- The form call of an earliest table's text.
  pub form_answers : {R' : List ℕ} → j ≡ given tt → Meant F I (λ M. Earliest M → FormInto M R R' r) → FormAnswered T R R' r
  form_answers e f =
      let t = h.opened e in
      let i = f t.table t.opened t.earliest in
      let out = write_table i.form in
      record {
        reply = into (length R) (given out);
        answer = (given out, (i.form, record { table = t.table; read = t.read; judged = judged_early h e; form = i.is }, refl), refl);
        told = i.answer;
        room = i.room;
      }
