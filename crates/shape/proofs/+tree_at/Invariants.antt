-- `shape::tree_at` meets its contract. The cycle's measure is the levels allowed. The loop's invariant: the trees that remain end where the whole tree
-- does, and the next place is within the bytes. Assumes nothing.
use mathlib.Core.Path.{◌≡◌}
use mathlib.Core.List.{List}
use Prim.Native.Nat.{ℕ, ◌-◌, ◌≤◌}
use lib.ListN.{length, drop}
use Rattle.machine.specs.Machine.{Table}
use Rattle.layout.specs.Layout.{Opened}
use Rattle.trees.specs.Shape.{forest_at, tree_at}
use Rattle.shape.specs.Shaped.{ends}
use Rattle.shape.proofs.+tree_at.Given as goal

abbrev pub invariant-loop-child : goal.invariant-loop-child
invariant-loop-child l =
    ((I : List ℕ) (M : Table) → Opened l.frames I M → l.symbols ≡ length M.arities
    → ends (tree_at l.levels M.arities l.at (drop l.at l.tree))
    ≡ ends (forest_at (tree_at (l.levels - 1) M.arities) (l.children - l._child) l.next (drop l.next l.tree)))
    × (l.next ≤ length l.tree)

abbrev pub decreases-tree_at : goal.decreases-tree_at
decreases-tree_at l = l.levels
