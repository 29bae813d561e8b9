-- `meet_children` meets its contract: whatever meets the states of the children that remain meets those of all.
use native.Mathlib.Omega.{arith}
use Rattle.visit_queue.proofs.Meeting.{children_next, children_end}
use Rattle.visit_queue.proofs.queue.Queue.meet_children.Goals as goal

pub loop-j-preserved : goal.loop-j-preserved
loop-j-preserved c =
    λ i r b h g.
    let k = c.kids_in-kids.ensures.by_index i r h in
    let state = c.child_in.ensures.by_index i r h in
    c.loop-j.invariant i r b h (children_next r.rest c.loop-j.j k (omega arith) state c.meet.ensures g)

pub returns : goal.returns
returns c =
    λ i r h. c.loop-j.invariant i r _ h (children_end r.rest c.loop-j.j (c.kids_in-kids.ensures.by_index i r h) (omega arith))
