-- Where a tree stands there is a level and a byte: its symbol, with the trees below behind it. Assumes nothing.
use mathlib.Core.Path.{◌≡◌, ap}
use mathlib.Core.List.{List, ◌++◌}
use Prim.Native.Nat.{ℕ, ◌+◌, ◌≤◌}
use native.Mathlib.Omega.{arith}
use lib.ListN.{length, get_or, drop, length-append, length-drop}
use Rattle.machine.specs.Machine.{Tree, Forest, node, Table}
use Rattle.trees.specs.Preorder.{preorder, preorders}
use Rattle.trees.proofs.Preorder.{preorder_some}
use Rattle.layout.proofs.Stretches.{byte_here, byte_behind}
use Rattle.walk.specs.Walked.{TreeStands}

module _ {F I S : List ℕ} {at levels : ℕ} {M : Table} where
  -- No tree stands past the end of the bytes.
  pub no_byte : (t : Tree) → TreeStands F I S at levels M t → length S ≤ at → ⊥
  no_byte t h e = omega (arith, preorder_some t, length-drop at S, simp length-append at (ap length h.bytes))

  -- A tree's symbol is the byte where it stands.
  pub root_byte : (f : ℕ) (ts : Forest) → TreeStands F I S at levels M (node f ts) → get_or S at 0 ≡ f
  unfolding preorder
  root_byte f ts h = byte_here S at f (preorders ts ++ h.behind) h.bytes

  -- The trees below it stand behind it.
  pub below_bytes : (f : ℕ) (ts : Forest) (h : TreeStands F I S at levels M (node f ts)) → drop (at + 1) S ≡ preorders ts ++ h.behind
  unfolding preorder
  below_bytes f ts h = byte_behind S at f (preorders ts ++ h.behind) h.bytes
