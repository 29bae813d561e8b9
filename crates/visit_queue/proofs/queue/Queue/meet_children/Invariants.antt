-- `meet_children` meets its contract: whatever meets the states of the children that remain meets those of all.
use Prim.Native.Nat.{ℕ}
use lib.ListN.{drop}
use Rattle.machine.specs.Machine.{Rule}
use Rattle.layout.specs.Leaves.{Encodes}
use Rattle.visit_queue.specs.Queue.{StatesMet, states_of}
use Rattle.visit_queue.specs.declared.queue.Queue.{Queue}
use Rattle.visit_queue.proofs.queue.Queue.meet_children.Given as goal

abbrev pub invariant-loop-j : goal.invariant-loop-j
invariant-loop-j l =
    (i : ℕ) (r : Rule) (b : Queue) → Encodes l.x i r → StatesMet l.rep (drop l.j (states_of r.rest)) l.self b
    → StatesMet l.rep (states_of r.rest) l.initial.self b
