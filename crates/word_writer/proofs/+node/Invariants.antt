-- `node` writes the word of a planned tree. Before a word is put the room has what is written in front, and that word and what the children left are to
-- write make the word whole; whatever the bytes are, every place is inside and behind the one before. The measures are the levels allowed, and the
-- children left. Assumes nothing.
use mathlib.Core.Path.{◌≡◌}
use Prim.Native.Nat.{◌<◌, ◌≤◌}
use lib.ListN.{length}
use Rattle.trees.specs.Shape.{tree_most}
use Rattle.word_writer.proofs.Writing.{Writing}
use Rattle.word_writer.proofs.+node.Given as goal

abbrev pub invariant-loop-left : goal.invariant-loop-left
invariant-loop-left l =
    Writing l.frames l.plan l.levels l.at (length l.initial.room) l.room l.end l.next l.left l.p
    × (l.end ≤ length l.room)
    × (length l.room ≡ length l.initial.room)
    × (l.next ≤ tree_most)
    × (l.at < l.next)

abbrev pub decreases-loop-left : goal.decreases-loop-left
decreases-loop-left l =
    l.left

abbrev pub decreases-node : goal.decreases-node
decreases-node l = l.levels
