-- `measure` meets its contract. The loop's invariant: what waits decides the whole and is owed trees by it. Assumes nothing.
use Rattle.measure.proofs.Turn.{Measuring}
use Rattle.measure.proofs.measure.Given as goal

abbrev pub invariant-loop-at : goal.invariant-loop-at
invariant-loop-at l =
    Measuring l.numbers l.tree l.plan l.stack.places.now l.stack.top l.next l.sum l.at
