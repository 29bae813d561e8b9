-- `digit_values` meets its contract: antt computes the test of each entry. Assumes nothing.
use mathlib.Core.Path.{refl}
use Rattle.text.specs.Lines.{digit}
use Rattle.lines.proofs.Values.{right, right_valued}
use Rattle.lines.proofs.digit_values.Goals as goal

pub returns : goal.returns
unfolding right digit
returns c =
    let d = c.copy_from_slice-2.ensures.after in
    let e = c.copy_from_slice.ensures.after in
    rw (d, e) (right_valued _ refl tt)
