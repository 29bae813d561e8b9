-- `start` meets its contract.
use Rattle.long_line.proofs.Lines as law
use Rattle.long_line.proofs.start.Goals as goal

pub returns : goal.returns
returns c =
    λ F I T k h. law.long_none F I T k h (c.start.ensures T)
