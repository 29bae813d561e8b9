-- `end_frame` meets its contract. Assumes nothing.
use Rattle.frames.proofs.EndFrame as law
use Rattle.frames.proofs.end_frame.Goals as goal

pub returns-in_err-finish : goal.returns-in_err-finish
returns-in_err-finish c R M a kind =
    law.end_over a c.args.cursor.at c.args.cursor.end _ _ c.from_residual.ensures.1 c.in_err-finish.ensures c.args.cursor.inside

pub returns : goal.returns
returns c R M a kind =
    law.end_next a c.args.cursor.at c.args.cursor.end c.in_ok-finish.ensures c.requires c.args.cursor.before_end c.args.cursor.inside kind
