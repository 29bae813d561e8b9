-- `lacking` meets its contract. The loop's invariant: some children of the rule and as many trees are left, and the tree lacks what they lack; it has gone on.
-- Assumes nothing.
use mathlib.Core.List.{List}
use Prim.Native.Nat.{ℕ, ◌-◌, ◌<◌, ◌≤◌}
use lib.ListN.{length}
use Rattle.machine.specs.Machine.{Tree, Table}
use Rattle.walk.specs.Walked.{TreeStands}
use Rattle.walk.proofs.LeftToWalk.{Walking}
use Rattle.walk.proofs.+lacking.Given as goal

abbrev pub invariant-loop-j : goal.invariant-loop-j
invariant-loop-j l =
    ((F : List ℕ) (M : Table) (t : Tree) → TreeStands F l.numbers l.tree l.at l.levels M t → Walking l.tree l.at (l.levels - 1) l.q M t l.x l.j l.next)
    × (l.at < l.next)
    × (l.next ≤ length l.tree)

abbrev pub decreases-lacking : goal.decreases-lacking
decreases-lacking l = l.levels
