-- `saved` reads 32 bytes: the first i of the piece are those of the room. Assumes nothing.
use mathlib.Core.Path.{◌≡◌}
use lib.ListN.{length, take, drop}
use Rattle.tree_word.proofs.saved.Given as goal

abbrev pub invariant-loop-i : goal.invariant-loop-i
invariant-loop-i l =
    (take l.i l.piece ≡ take l.i (drop l.at l.room)) × (length l.piece ≡ 32)
