-- `find_reached` meets its contract: the marks are the walk's, of the states that a table may have.
use mathlib.Core.Path.{sym, subst}
use Rattle.visit.specs.Reaches.{Reaches}
use Rattle.verdict.proofs.find_reached.Goals as goal

pub returns : goal.returns
returns c =
    λ F M o.
    subst (λ m. Reaches M m c.reach-queue.result.order c.reach-queue.result.count) (sym c.copy_from_slice.ensures.after) (c.reach-queue.ensures F M o)
