-- `meet_rules` meets its contract: whatever meets the child states by the rules that remain meets those by all.
use native.Mathlib.Omega.{arith}
use Rattle.visit_queue.proofs.Meeting.{rules_all, rules_next, rules_end}
use Rattle.visit_queue.proofs.queue.Queue.meet_rules.Goals as goal

pub loop-i-init : goal.loop-i-init
loop-i-init c =
    λ F M b o. rules_all (c.rules_of-rules.ensures.meant_by F M o)

pub loop-i-preserved : goal.loop-i-preserved
loop-i-preserved c =
    λ F M b o g.
    c.loop-i.invariant F M b o
    (rules_next (c.rules_of-rules.ensures.meant_by F M o) c.loop-i.i (omega arith)
    (λ r e. c.meet_children.ensures c.loop-i.i r.rule (c.kept_of.ensures F M r o e)) g)

pub returns : goal.returns
returns c =
    λ F M o. c.loop-i.invariant F M _ o (rules_end M c.loop-i.i _ (omega arith))
