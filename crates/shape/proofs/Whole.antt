-- The whole tree's shape follows from that of the tree at place 0. Assumes nothing.
use mathlib.Core.Path.{◌≡◌, refl, ap, ◌∙◌}
use mathlib.Core.List.{List}
use Prim.Native.Nat.{ℕ, ◌<◌, ◌≤◌}
use native.Mathlib.Nat.{zero-add}
use native.Mathlib.Omega.{arith}
use borrow.Author.Tests.{lt-ltb, le-ltb, eq-eqb, ne_eqb}
use lib.ListN.{length, drop, length-drop}
use Rattle.words.specs.Reply.{Reply, given, refusal, refused, ◌then◌}
use Rattle.machine.specs.Machine.{Tree}
use Rattle.trees.specs.Preorder.{preorder}
use Rattle.trees.specs.Shape.{Read, tree_at, alone, read_tree, depth_most, tree_most}
use Rattle.trees.proofs.Shape.{tree_sound}
use Rattle.words.specs.declared.No.{No}
use Rattle.shape.specs.Shaped.{ends, size}
use Rattle.shape.proofs.Steps.{left_behind}

-- What is refused of the tree is refused of the whole.
refused_alone : (o : Reply (Read Tree)) (x : No) → refusal x ≡ ends o → refusal x ≡ size (o then alone)
refused_alone (given r) x h = cc
refused_alone (refusal y) x h = h

-- A tree that was read is asked what stands behind it.
ends_alone : (o : Reply (Read Tree)) (next : ℕ) (s : Reply ℕ) → ((r : Read Tree) → o ≡ given r → next ≡ r.place → s ≡ size (alone r))
    → given next ≡ ends o → s ≡ size (o then alone)
ends_alone (given r) next s k h = k r refl cc
ends_alone (refusal x) next s k h = cc

module _ (S : List ℕ) (r : Read Tree) (next : ℕ) (ended : next ≡ r.place) (left : r.left ≡ drop r.place S) where
  -- Bytes behind a tree are refused at its end.
  behind_alone : next < length S → refused 11 next ≡ size (alone r)
  behind_alone h =
      let i : length r.left ≡ 0 → ⊥ = λ e. omega (arith, simp length-drop at (ap length left)) in
      rw (ne_eqb (length r.left) 0 i) cc

  -- With no bytes behind it the tree is the whole.
  whole_alone : length S ≤ next → r.place ≡ length (preorder r.value) → given next ≡ size (alone r)
  whole_alone h e =
      let i : length r.left ≡ 0 = omega (arith, simp length-drop at (ap length left)) in
      rw (eq-eqb (length r.left) 0 i) (let i : next ≡ length (preorder r.value) = ended ∙ e in cc)

module _ (ar S : List ℕ) where
  -- No bytes.
  pub too_few : length S ≡ 0 → refused 6 0 ≡ size (read_tree ar S)
  unfolding read_tree
  too_few h = rw (eq-eqb (length S) 0 h) refl

  -- Bytes, but too many.
  pub too_many : (length S ≡ 0 → ⊥) → tree_most < length S → refused 6 0 ≡ size (read_tree ar S)
  unfolding read_tree
  too_many h l = rw (ne_eqb (length S) 0 h, lt-ltb tree_most (length S) l) refl

  module _ (some : length S ≡ 0 → ⊥) (most : length S ≤ tree_most) where
    -- Neither none nor too many: the tree at place 0, and what stands behind it.
    read_sized : read_tree ar S ≡ (tree_at depth_most ar 0 S then alone)
    unfolding read_tree
    read_sized = rw (ne_eqb (length S) 0 some, le-ltb tree_most (length S) most)

    -- The whole is refused as the tree at place 0 is.
    pub whole_refused : (x : No) → refusal x ≡ ends (tree_at depth_most ar 0 S) → refusal x ≡ size (read_tree ar S)
    whole_refused x h = rw read_sized (refused_alone (tree_at depth_most ar 0 S) x h)

    -- A tree that ends before the bytes do is refused at its end.
    pub whole_behind : (next : ℕ) → next < length S → given next ≡ ends (tree_at depth_most ar 0 S) → refused 11 next ≡ size (read_tree ar S)
    whole_behind next l h =
        rw read_sized
        (ends_alone (tree_at depth_most ar 0 S) next (refused 11 next)
        (λ r e ended. behind_alone S r next ended (left_behind depth_most ar S 0 r e) l) h)

    -- A tree that ends where the bytes do is the whole.
    pub whole_ends : (next : ℕ) → length S ≤ next → given next ≡ ends (tree_at depth_most ar 0 S) → given next ≡ size (read_tree ar S)
    whole_ends next l h =
        rw read_sized
        (ends_alone (tree_at depth_most ar 0 S) next (given next)
        (λ r e ended.
        let long = (tree_sound depth_most ar 0 S r e).ends ∙ zero-add (length (preorder r.value)) in
        whole_alone S r next ended (left_behind depth_most ar S 0 r e) l long) h)
