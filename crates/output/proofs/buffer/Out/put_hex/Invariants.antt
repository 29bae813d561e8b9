-- `put_hex` meets its contract: at each turn the digits of the bytes that are done are put. The measure is how many are left.
use Prim.Native.Nat.{◌≤◌, ◌-◌}
use lib.ListN.{length, take}
use Rattle.text.specs.Lines.{hex_of}
use Rattle.output.specs.Queue.{seen, TextPut}
use Rattle.output.proofs.buffer.Out.put_hex.Given as goal

abbrev pub invariant-loop-done : goal.invariant-loop-done
invariant-loop-done l =
    (l.done ≤ length l.bytes) × TextPut (hex_of (take l.done l.bytes)) (seen l.initial.self) (seen l.self)

abbrev pub decreases-loop-done : goal.decreases-loop-done
decreases-loop-done l =
    length l.bytes - l.done
