-- `put_rules` meets its contract: the lines of the rules passed.
use mathlib.Core.Path.{◌≡◌}
use Prim.Native.Nat.{◌+◌, ◌*◌, ◌≤◌}
use Rattle.text.specs.Limits.{rows_most}
use Rattle.layout.specs.Layout.{Meant}
use Rattle.layout.specs.Lent.{Means}
use Rattle.digits.specs.Room.{Wrote}
use Rattle.form_rows.proofs.Ranges.{range_lines}
use Rattle.form_rows.specs.Rows.{named}
use Rattle.form_rows.proofs.put_rules.Given as goal

abbrev pub invariant-loop-i : goal.invariant-loop-i
invariant-loop-i l =
    record {
      same_room : l.pen.room.ghost_name ≡ l.initial.pen.room.ghost_name;
      few : l.i ≤ rows_most;
      place : l.pen.at ≤ l.initial.pen.at + 547 * l.i;
      written : Means l.table (λ M. Wrote l.initial.pen.room.now l.initial.pen.at (range_lines (named l.names) l.n M.rows l.initial.i l.i)
          l.pen.room.now l.pen.at);
    }
