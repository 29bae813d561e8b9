-- Preorders: a tree's is never empty. Assumes nothing.
use Prim.Native.Nat.{◌<◌}
use native.Mathlib.Omega.{arith}
use lib.ListN.{length}
use Rattle.machine.specs.Machine.{Tree, node}
use Rattle.trees.specs.Preorder.{preorder}

-- The preorder of a tree has a symbol.
pub preorder_some : (t : Tree) → 0 < length (preorder t)
unfolding preorder
preorder_some (node f ts) = omega arith
