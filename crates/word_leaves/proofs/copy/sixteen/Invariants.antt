-- `sixteen` reads 16 bytes: the first i of the piece are those of the frames.
use Rattle.std.proofs.Common.{◌≡◌, ◌+◌, ◌≤◌, length, take, drop}
use Rattle.word_leaves.proofs.copy.sixteen.Given as goal

abbrev pub invariant-loop-i : goal.invariant-loop-i
invariant-loop-i l =
    (l.from + 16 ≤ length l.frames → take l.i l.piece ≡ take l.i (drop l.from l.frames)) × (length l.piece ≡ 16)
