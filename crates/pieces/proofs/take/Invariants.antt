-- `take` meets its contract: at each turn the lines that end before `at` are answered. The measure is how many characters are left.
use Prim.Native.Nat.{◌-◌}
use mathlib.Core.Path.{◌≡◌}
use lib.ListN.{length}
use Rattle.output.specs.Queue.{seen, SameBuffer}
use Rattle.respond.specs.Response.{SameRoom}
use Rattle.pieces.specs.Piece.{PieceSoFar}
use Rattle.pieces.proofs.take.Given as goal

abbrev pub invariant-loop-at : goal.invariant-loop-at
invariant-loop-at l =
    PieceSoFar l.question.asked l.question.frames.now l.question.numbers.now l.initial.tree l.initial.line l.question.opening
    (length l.initial.scratch.room.now) l.piece (seen l.initial.out) l.at (seen l.out) l.tree l.line
    × SameRoom l.initial.scratch.room l.scratch.room
    × SameBuffer (seen l.initial.out) (seen l.out)
    × (length l.counts ≡ length l.initial.counts)

abbrev pub decreases-loop-at : goal.decreases-loop-at
decreases-loop-at l =
    length l.piece - l.at
