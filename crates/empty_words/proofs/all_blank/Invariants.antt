-- `all_blank` meets its contract. Invariant: something is kept for each of the first j children.
use mathlib.Core.Path.{◌≡◌}
use Prim.Native.Nat.{ℕ}
use lib.ListN.{length}
use Rattle.machine.specs.Machine.{Rule}
use Rattle.layout.specs.Leaves.{Encodes}
use Rattle.empty_words.proofs.Rules.{FirstKept}
use Rattle.empty_words.proofs.all_blank.Given as goal

abbrev pub invariant-loop-j : goal.invariant-loop-j
invariant-loop-j l =
    (i : ℕ) (r : Rule) → Encodes l.x i r → (l.j-end ≡ length r.rest) × FirstKept l.values r.rest l.j
