-- `copy` copies n bytes: after i bytes the room is the one at entry with the first i of them pasted over it.
use Rattle.std.proofs.Common.{◌≡◌, ◌+◌, ◌≤◌, length, drop}
use lib.Seq.{paste}
use Rattle.word_leaves.proofs.copy.copy.Given as goal

abbrev pub invariant-loop-i : goal.invariant-loop-i
invariant-loop-i l =
    (l.from + l.n ≤ length l.frames → l.room ≡ paste l.initial.room l.at (drop l.from l.frames) l.i) × (length l.room ≡ length l.initial.room)
