-- `visit` meets its contract: the states below the counter have been taken.
use Prim.Native.Nat.{◌-◌}
use Rattle.text.specs.Limits.{states_most}
use Rattle.layout.specs.Layout.{MeantBy}
use Rattle.visit.proofs.Visits.{Under}
use Rattle.visit.proofs.visit.Given as goal

abbrev pub invariant-loop-i : goal.invariant-loop-i
invariant-loop-i l =
    MeantBy l.numbers (λ M. Under l.rep M l.queue l.i)

abbrev pub decreases-loop-i : goal.decreases-loop-i
decreases-loop-i l =
    states_most - l.i
