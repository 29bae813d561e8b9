-- `read_all`: the bytes that were read stand at the front, and no more than there is room for. The measure is the room that is left.
use Rattle.std.proofs.Common.{length, take, ◌-◌, ◌≤◌, ◌≡◌}
use Rattle.std.specs.Io.KnownBytes.{Consumes}
use Rattle.console.proofs.read_all.Given as goal

abbrev pub invariant-loop-n : goal.invariant-loop-n
invariant-loop-n g l =
    (l.n ≤ length l.buf) × (length l.buf ≡ length l.initial.buf)
    × Consumes (g.R.Read.remaining l.initial.from) (g.R.Read.remaining l.from) (take l.n l.buf)

abbrev pub decreases-loop-n : goal.decreases-loop-n
decreases-loop-n g l = length l.buf - l.n
