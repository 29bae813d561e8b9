-- `put` copies a word into the room: after i letters the room is the one at entry with the word's first i letters pasted over it. Assumes nothing.
use mathlib.Core.Path.{◌≡◌}
use lib.ListN.{length}
use lib.Seq.{paste}
use Rattle.tree_word.proofs.put.Given as goal

abbrev pub invariant-loop-i : goal.invariant-loop-i
invariant-loop-i l =
    (l.room ≡ paste l.initial.room l.at l.word l.i) × (length l.room ≡ length l.initial.room)
