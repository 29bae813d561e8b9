-- `adopt` meets its contract: entry after entry is taken over, and only raised.
use Prim.Native.Nat.{◌*◌, ◌≤◌}
use Rattle.text.specs.Limits.{states_most}
use Rattle.classes.specs.Taking.{slack, Adopted}
use Rattle.classes.proofs.adopt.Given as goal

abbrev pub invariant-loop-q : goal.invariant-loop-q
invariant-loop-q l =
    (slack l.initial.rep ≤ states_most * states_most) × Adopted l.q l.next l.initial.rep l.rep l.k
