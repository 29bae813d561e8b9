-- `store` writes 16 bytes: after i bytes the room is the one at entry with the first i of them pasted over it.
use Rattle.std.proofs.Common.{◌≡◌, length}
use lib.Seq.{paste}
use Rattle.word_leaves.proofs.copy.store.Given as goal

abbrev pub invariant-loop-i : goal.invariant-loop-i
invariant-loop-i l =
    (l.room ≡ paste l.initial.room l.at l.piece l.i) × (length l.room ≡ length l.initial.room)
