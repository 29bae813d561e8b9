-- `visit` meets its contract: the states below the counter have been taken.
use Rattle.visit.proofs.Visits.{under_start, under_next, under_done}
use Rattle.visit.proofs.visit.Goals as goal

pub loop-i-init : goal.loop-i-init
loop-i-init c =
    λ F M o. under_start c.args.rep.now o c.start.result (c.start.ensures.meant_by F M o) c.new-queue.ensures c.meet.ensures

pub loop-i-preserved : goal.loop-i-preserved
loop-i-preserved c =
    λ F M o. under_next c.args.rep.now o c.from-q.result (c.loop-i.invariant F M o) c.loop-i-test.true c.from-q.ensures (c.meet_rules.ensures F M o)

pub returns : goal.returns
returns c =
    λ F M o. under_done c.args.rep.now o (c.loop-i.invariant F M o) c.loop-i-test.false
