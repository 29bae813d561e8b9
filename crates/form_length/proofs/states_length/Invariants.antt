-- `states_length` meets its contract: the length of the lines of the states passed.
use Prim.Native.Nat.{◌*◌, ◌≤◌}
use Rattle.form_length.specs.Long.{StatesLong}
use Rattle.form_length.proofs.states_length.Given as goal

abbrev pub invariant-loop-i : goal.invariant-loop-i
invariant-loop-i l =
    (l.sum ≤ 40000 * l.i) × StatesLong l.numbers l.order l.i l.sum
