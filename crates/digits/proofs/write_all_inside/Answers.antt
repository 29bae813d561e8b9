-- `write_all_inside` meets its contract: the digits of the bytes passed, and all have their places.
use mathlib.Core.Path.{refl, ◌∙◌}
use native.Mathlib.Omega.{arith}
use Rattle.text.specs.Lines.{hex_of}
use Rattle.digits.proofs.Room.{wrote_none, wrote_then, wrote_as, wrote_long, hex_more}
use Rattle.digits.proofs.write_all_inside.Goals as goal

pub loop-b-init : goal.loop-b-init
unfolding hex_of
loop-b-init c = record { wrote = wrote_none c.args.room.now c.args.at; place = omega arith; long = refl }

pub loop-b-preserved : goal.loop-b-preserved
loop-b-preserved c =
    record {
      wrote = wrote_as (hex_more c.args.bytes.now c.loop-b.b-index c.loop-b-test.true) (wrote_then c.loop-b.invariant.wrote c.write_inside-end.ensures.0);
      place = omega (arith, c.write_inside-end.ensures.1, c.loop-b.invariant.place);
      long = wrote_long c.write_inside-end.ensures.0 ∙ c.loop-b.invariant.long;
    }
