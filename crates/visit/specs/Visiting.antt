-- The states of an opened table by first visit, in a queue. Definitions only.
use Rattle.std.specs.Prelude.{List, ℕ}
use Rattle.machine.specs.Form.{order}
use Rattle.layout.specs.Layout.{MeantBy}
use Rattle.visit_queue.specs.Queue.{by_rep, QueueHolds}
use Rattle.visit_queue.specs.declared.queue.Queue.{Queue}

-- The states were visited: the queue holds the states by first visit.
abbrev pub Visits : (I rep : List ℕ) → Queue → Type 0
Visits I rep a = MeantBy I (λ M. QueueHolds rep (order (by_rep rep) M) a)
