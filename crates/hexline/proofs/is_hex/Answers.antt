-- `is_hex` meets its contract: the line so far tells it. Assumes nothing.
use Rattle.hexline.proofs.Laws as law
use Rattle.hexline.proofs.is_hex.Goals as goal

pub returns-in_default : goal.returns-in_default
returns-in_default c =
    λ cs tree. law.told_other c.in_default.not-Whole
