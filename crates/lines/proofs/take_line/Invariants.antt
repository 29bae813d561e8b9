-- `take_line` meets its contract. The loop's invariant: the first n pairs are decoded. Assumes nothing.
use Prim.Native.Nat.{◌+◌, ◌*◌}
use Rattle.lines.proofs.Scan.{DecodedUpTo}
use Rattle.lines.proofs.take_line.Given as goal

abbrev pub invariant-loop-n : goal.invariant-loop-n
invariant-loop-n l =
    DecodedUpTo l.text l.initial.frames l.frames l.at l.used (l.at + 2 * l.n) l.n
