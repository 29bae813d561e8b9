-- `form_opened` meets its contract: 12 with the length measured, or the form written by the classes and the first-visit numbers. Assumes nothing.
use mathlib.Core.Path.{refl}
use Rattle.form_call.proofs.Forms.{measured_short, measured_fits}
use Rattle.form_call.proofs.form_opened.Goals as goal

pub returns-then-room-length : goal.returns-then-room-length
returns-then-room-length c =
    λ M o E.
    measured_short (record {
      opened = o;
      earliest = E;
      parted = c.part.ensures.meant M o;
      numbered = c.number-n.ensures.states_numbered;
      long = c.length-length.ensures;
    })
    c.if-room-length.true refl

pub returns : goal.returns
returns c =
    λ M o E.
    measured_fits (record {
      opened = o;
      earliest = E;
      parted = c.part.ensures.meant M o;
      numbered = c.number-n.ensures.states_numbered;
      long = c.length-length.ensures;
    })
    c.write.result c.if-room-length.false c.write.ensures refl
