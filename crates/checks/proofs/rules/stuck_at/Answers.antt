-- `stuck_at` meets its contract: the summary says no, the word is empty, or its first letter decides.
use Rattle.summary.specs.Codes.{decode}
use Rattle.checks.proofs.Rows.{stuck_first}
use Rattle.checks.proofs.rules.stuck_at.Goals as goal

pub returns-then-n-ne0 : goal.returns-then-n-ne0
returns-then-n-ne0 c =
    λ u cs s e. stuck_first (decode c.args.x) u c.args.n c.letter_at.result e c.if-n-ne0.true.1 (c.letter_at.ensures u cs s) c.stuck_by.ensures
