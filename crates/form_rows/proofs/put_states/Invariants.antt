-- `put_states` meets its contract: the lines of the states passed.
use mathlib.Core.Path.{◌≡◌}
use Prim.Native.Nat.{◌+◌, ◌*◌, ◌≤◌}
use Rattle.form_rows.specs.Rows.{StatesWritten}
use Rattle.form_rows.proofs.put_states.Given as goal

abbrev pub invariant-loop-i : goal.invariant-loop-i
invariant-loop-i l =
    record {
      same_room : l.pen.room.ghost_name ≡ l.initial.pen.room.ghost_name;
      place : l.pen.at ≤ l.initial.pen.at + 300000 * l.i;
      written : StatesWritten l.table.frames.now l.table.numbers.now l.order l.i l.names l.initial.pen.room.now l.initial.pen.at l.pen.room.now l.pen.at;
    }
