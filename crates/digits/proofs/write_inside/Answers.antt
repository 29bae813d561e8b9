-- `write_inside` meets its contract: two stores.
use native.Mathlib.Omega.{arith}
use Rattle.digits.proofs.Room.{wrote_digits}
use Rattle.digits.proofs.write_inside.Goals as goal

pub returns : goal.returns
returns c =
    (wrote_digits c.args.room.now c.args.at c.digit.result c.digit-2.result c.args.b c.digit.ensures c.digit-2.ensures, omega arith)
