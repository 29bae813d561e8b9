-- `write_all_inside` meets its contract: the digits of the bytes passed, and all have their places.
use mathlib.Core.Path.{◌≡◌}
use Prim.Native.Nat.{◌+◌, ◌*◌}
use lib.ListN.{length, take}
use Rattle.text.specs.Lines.{hex_of}
use Rattle.digits.specs.Room.{Wrote}
use Rattle.digits.proofs.write_all_inside.Given as goal

abbrev pub invariant-loop-b : goal.invariant-loop-b
invariant-loop-b l =
    record {
      wrote : Wrote l.initial.room l.at (hex_of (take l.b-index l.bytes)) l.room l.end;
      place : l.end ≡ l.at + 2 * l.b-index;
      long : length l.room ≡ length l.initial.room;
    }
