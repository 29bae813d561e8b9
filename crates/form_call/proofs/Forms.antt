-- The form of an opened earliest table, by its classes and its first-visit numbers. Assumes nothing.
use mathlib.Core.Path.{◌≡◌, refl, sym, ap, ◌∙◌}
use mathlib.Core.List.{List, ◌++◌}
use Prim.Native.Nat.{ℕ, ◌<◌, ◌≤◌}
use native.Mathlib.Omega.{arith}
use borrow.Author.Tests.{eqb-true, eq-eqb, lt-ltb, le-ltb}
use lib.ListN.{length, drop, get_or}
use Rattle.words.specs.Reply.{Reply, given, refused, mapped}
use Rattle.machine.specs.Machine.{Table}
use Rattle.machine.specs.Earliest.{Earliest}
use Rattle.machine.specs.Form.{Test, Decides, IsForm, form_of}
use Rattle.text.specs.Writing.{write_table}
use Rattle.promises.specs.Room.{into, filled}
use Rattle.layout.specs.Layout.{Opened}
use Rattle.classes.specs.Classes.{Classes, TwinClasses}
use Rattle.classes.proofs.Settled.{twin_classes}
use Rattle.visit_queue.specs.Queue.{by_rep}
use Rattle.form_numbers.specs.Numbers.{StatesNumbered}
use Rattle.form_length.specs.Long.{FormLong}
use Rattle.form_writer.specs.Lines.{FormTextWritten}
use Rattle.form_call.specs.Formed.{FormInto}

-- Classes decide sameness.
classes_decide : {M : Table} {rep : List ℕ} → Classes M rep → Decides (by_rep rep) M
classes_decide {M} {rep} h q r lq lr =
    let s = h.same q r lq lr in
    (λ e. s.0 (eqb-true (get_or rep q 0) (get_or rep r 0) e), λ e. eq-eqb (get_or rep q 0) (get_or rep r 0) (s.1 e))

-- The form by a test that decides sameness.
form_is : {M : Table} (same : Test) → Decides same M → IsForm M (form_of same M)
form_is same D = record { same = same; decides = D; form = refl }

-- A room that is shorter than the output: 12 with the length needed.
into_short : (R out : List ℕ) → length R < length out → into (length R) (given out) ≡ refused 12 (length out)
into_short R out h = rw (lt-ltb (length R) (length out) h)

-- A room that is long enough: the output.
pub into_fits : (R out : List ℕ) → length out ≤ length R → into (length R) (given out) ≡ given out
into_fits R out h = rw (le-ltb (length R) (length out) h)

-- The form of a table by its classes, where the room is too short for its text.
short_into : {M : Table} (R : List ℕ) (same : Test) (l : ℕ) (r : Reply ℕ) → Decides same M → l ≡ length (write_table (form_of same M)) → length R < l
    → r ≡ refused 12 l → FormInto M R R r
short_into {M} R same l r D e h er =
    let out = write_table (form_of same M) in
    let i : length R < length out = omega arith in
    record {
      form = form_of same M;
      is = form_is same D;
      answer = er ∙ ap (λ (k : ℕ). refused 12 k) e ∙ sym (ap (mapped length) (into_short R out i));
      room = sym (ap (filled R) (into_short R out i));
    }

-- The form of a table by its classes, where the room is long enough for its text.
fits_into : {M : Table} (R R' : List ℕ) (same : Test) (l : ℕ) (r : Reply ℕ) → Decides same M → l ≡ length (write_table (form_of same M)) → l ≤ length R
    → R' ≡ write_table (form_of same M) ++ drop (length (write_table (form_of same M))) R → r ≡ given l → FormInto M R R' r
fits_into {M} R R' same l r D e h w er =
    let out = write_table (form_of same M) in
    let i : length out ≤ length R = omega arith in
    record {
      form = form_of same M;
      is = form_is same D;
      answer = er ∙ ap (λ (k : ℕ). given k) e ∙ sym (ap (mapped length) (into_fits R out i));
      room = w ∙ sym (ap (filled R) (into_fits R out i));
    }

-- What is known of an opened earliest table when its form was measured.
pub record Measured (F I : List ℕ) (M : Table) (rep O N : List ℕ) (n l : ℕ) : Type 0 where
  pub opened : Opened F I M
  pub earliest : Earliest M
  pub parted : TwinClasses M rep
  pub numbered : StatesNumbered I rep O N n
  pub long : FormLong F I O n l

module _ {F I : List ℕ} {M : Table} {rep O N : List ℕ} {n l : ℕ} (h : Measured F I M rep O N n l) where
  -- The classes decide sameness in it.
  decides : Decides (by_rep rep) M
  decides = classes_decide (twin_classes h.opened.limited.made h.earliest h.parted)

  -- The length that was measured is that of the form's text.
  measured_long : l ≡ length (write_table (form_of (by_rep rep) M))
  measured_long = h.long (by_rep rep) M N h.opened decides (h.numbered F M h.opened)

  -- Where the measured length is more than the room has, 12 and that length is the answer.
  pub measured_short : {R : List ℕ} {r : Reply ℕ} → length R < l → r ≡ refused 12 l → FormInto M R R r
  measured_short {R} {r} s er = short_into R (by_rep rep) l r decides measured_long s er

  -- Where it is not, what was written is the form's text.
  pub measured_fits : {R R' : List ℕ} {r : Reply ℕ} (k : ℕ) → l ≤ length R → FormTextWritten F I O N n R R' k → r ≡ given l → FormInto M R R' r
  measured_fits {R} {R'} {r} k s w er =
      let e = measured_long in
      let o = w (by_rep rep) M h.opened decides (h.numbered F M h.opened) in
      fits_into R R' (by_rep rep) l r decides e s (o.1 (omega arith)) er
