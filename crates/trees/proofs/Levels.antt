-- Levels: a tree has at least one, and the trees below its root have one less.
use mathlib.Core.Path.{◌≡◌}
use Prim.Native.Nat.{ℕ, zero, suc, ◌-◌}
use native.Mathlib.Numerals.{sub-one}
use Rattle.machine.specs.Machine.{Tree, Forest, node}
use Rattle.trees.specs.Preorder.{Levels, Levelss}

-- With no level allowed there is no tree.
pub no_level : (t : Tree) (n : ℕ) → n ≡ 0 → Levels t n → ⊥
unfolding Levels
no_level (node f ts) n e h = rw e at h

-- The trees below a node have one level less.
pub levels_below : (f : ℕ) (ts : Forest) (n : ℕ) → Levels (node f ts) n → Levelss ts (n - 1)
unfolding Levels
levels_below f ts zero h = absurd h
levels_below f ts (suc n) h = rw sub-one h
