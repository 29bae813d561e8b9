-- `put_symbols` meets its contract: a line for each symbol passed.
use mathlib.Core.Path.{◌≡◌}
use Prim.Native.Nat.{◌+◌, ◌*◌}
use lib.ListN.{take}
use Rattle.text.specs.Writing.{symbol_lines}
use Rattle.layout.specs.Layout.{Meant}
use Rattle.layout.specs.Lent.{Means}
use Rattle.digits.specs.Room.{Wrote}
use Rattle.form_writer.proofs.lines.put_symbols.Given as goal

abbrev pub invariant-loop-k : goal.invariant-loop-k
invariant-loop-k l =
    record {
      same_room : l.pen.room.ghost_name ≡ l.initial.pen.room.ghost_name;
      place : l.pen.at ≡ l.initial.pen.at + 5 * l.k;
      written : Means l.table (λ M. Wrote l.initial.pen.room.now l.initial.pen.at (symbol_lines (take l.k M.arities)) l.pen.room.now l.pen.at);
    }
