-- `long_room` has the length that its type says. Assumes nothing.
use Prim.Native.Nat.{ℕ}
use mathlib.Core.Path.{sym}
use lib.ListN.{length-replicate}
use Rattle.line_answers.proofs.stream.long_room.Goals as goal

pub returns : goal.returns
returns c =
    sym (length-replicate {A = ℕ} 2097184 0)
