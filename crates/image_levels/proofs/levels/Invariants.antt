-- `levels` meets its contract. The loop's invariant: the levels on the stack tell of the bytes that are left what is told of the whole.
-- Assumes nothing.
use Rattle.image_levels.proofs.Steps.{Climbing}
use Rattle.image_levels.proofs.levels.Given as goal

abbrev pub invariant-loop-i : goal.invariant-loop-i
invariant-loop-i l =
    Climbing l.bytes l.leaf l.stack l.top l.left l.i
