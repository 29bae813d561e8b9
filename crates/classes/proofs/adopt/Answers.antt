-- `adopt` meets its contract: entry after entry is taken over, and only raised.
use native.Mathlib.Omega.{arith}
use Rattle.classes.proofs.Slack.{slack_most, adopted_none}
use Rattle.classes.proofs.adopt.Goals as goal

pub loop-q-init : goal.loop-q-init
loop-q-init c =
    (omega (arith, slack_most c.args.rep.now), adopted_none _ _)
