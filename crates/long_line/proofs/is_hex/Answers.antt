-- `is_hex` meets its contract: the rest tells it of the line.
use Rattle.long_line.proofs.Lines as law
use Rattle.long_line.proofs.is_hex.Goals as goal

pub returns : goal.returns
returns c =
    λ F I cs T k h. law.long_hex h (c.is_hex.ensures h.rest T h.held)
