-- `digit` meets its contract: no digit is a case of its own.
use Rattle.digits.proofs.Room.{digit_plain}
use Rattle.digits.proofs.digit.Goals as goal

pub returns : goal.returns
returns c =
    digit_plain c.args.v c.requires
