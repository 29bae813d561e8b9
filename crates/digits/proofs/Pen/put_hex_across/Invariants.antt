-- `put_hex_across` meets its contract: the digits of the bytes passed.
use mathlib.Core.Path.{◌≡◌}
use Prim.Native.Nat.{◌+◌, ◌*◌}
use lib.ListN.{take}
use Rattle.text.specs.Lines.{hex_of}
use Rattle.digits.specs.Room.{Wrote}
use Rattle.digits.proofs.Pen.put_hex_across.Given as goal

abbrev pub invariant-loop-b : goal.invariant-loop-b
invariant-loop-b l =
    record {
      same_room : l.self.room.ghost_name ≡ l.initial.self.room.ghost_name;
      wrote : Wrote l.initial.self.room.now l.initial.self.at (hex_of (take l.b-index l.bytes)) l.self.room.now l.self.at;
      place : l.self.at ≡ l.initial.self.at + 2 * l.b-index;
    }
