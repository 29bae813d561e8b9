-- Tree bytes are read as a tree exactly if they are its preorder, it is ranked and of at most 64 levels, and they are not too long.
-- Assumes nothing.
use mathlib.Core.Path.{◌≡◌, refl, sym, ap, subst, ◌∙◌}
use mathlib.Core.Bool.{Bool, true, false, not, ◌||◌, or-true}
use mathlib.Core.List.{List, [], ◌∷◌, ◌++◌, append-nil}
use mathlib.Core.Logic.{◌⊎◌, inl, inr, ⊎_elim, ◌↔◌}
use Prim.Native.Nat.{ℕ, zero, suc, ◌<◌, ◌≤◌}
use native.Mathlib.Omega.{arith}
use borrow.Author.Tests.{ltb-true, ltb-false, eqb-true, eqb-false, not-false, lt-ltb, le-ltb, ne_eqb, eq-eqb}
use lib.Dec.{ltb, eqb}
use lib.ListN.{length, replicate}
use Rattle.words.specs.Reply.{given, refused, ◌then◌}
use Rattle.machine.specs.Machine.{Tree, node, ∅, ◌▸◌}
use Rattle.machine.specs.Ranks.{Ranked}
use Rattle.trees.specs.Preorder.{preorder, Levels}
use Rattle.trees.specs.Shape.{Read, forest_at, tree_at, alone, read_tree, tree_most, depth_most}
use Rattle.trees.proofs.Preorder.{preorder_some}
use Rattle.trees.specs.Causes.{Sized}
use Rattle.words.proofs.Tests.{one_holds, both_fail}
use Rattle.words.proofs.Replies.{given_injective, refuse_given, then_given}
use Rattle.trees.proofs.Shape.{tree_sound, tree_complete}

-- A list of length 0 is empty.
no_length : (bs : List ℕ) → length bs ≡ 0 → bs ≡ []
no_length [] e = refl
no_length (b ∷ bs) e = absurd (omega arith)

-- The test of number 6.
abbrev pub wrong_size : List ℕ → Bool
wrong_size bs = eqb (length bs) 0 || ltb tree_most (length bs)

-- The test of number 6 fails only for bytes that are neither none nor too many.
pub size_right : (bs : List ℕ) → wrong_size bs ≡ false → Sized bs
size_right bs e =
    let i = both_fail (eqb (length bs) 0) (ltb tree_most (length bs)) e in
    record { some = omega (arith, eqb-false (length bs) 0 i.0); most = ltb-false tree_most (length bs) i.1 }

-- And the other way round.
pub right_size : (bs : List ℕ) → Sized bs → wrong_size bs ≡ false
right_size bs s = rw (ne_eqb (length bs) 0 (λ z. omega arith), le-ltb tree_most (length bs) s.most)

-- It holds only for bytes that are none or too many.
pub size_wrong : (bs : List ℕ) → wrong_size bs ≡ true → (length bs ≡ 0) ⊎ (tree_most < length bs)
size_wrong bs e =
    ⊎_elim (λ k. inl (eqb-true (length bs) 0 k)) (λ k. inr (ltb-true tree_most (length bs) k))
    (one_holds (eqb (length bs) 0) (ltb tree_most (length bs)) e)

-- And the other way round.
pub wrong_size_lem : (bs : List ℕ) → (length bs ≡ 0) ⊎ (tree_most < length bs) → wrong_size bs ≡ true
wrong_size_lem bs (inl e) = rw (eq-eqb (length bs) 0 e)
wrong_size_lem bs (inr h) = rw (lt-ltb tree_most (length bs) h) (or-true (eqb (length bs) 0))

-- A tree is given alone only if nothing is left behind it.
alone_given : (r : Read Tree) (t : Tree) → alone r ≡ given t → (r.value ≡ t) × (r.left ≡ [])
alone_given r t e =
    let i = refuse_given (not (eqb (length r.left) 0)) _ _ (given r.value) t e in
    let none = eqb-true (length r.left) 0 (not-false (eqb (length r.left) 0) i.0) in
    (given_injective r.value t i.1, no_length r.left none)

-- Reading is sound.
pub read_sound : (ar bs : List ℕ) (t : Tree) → read_tree ar bs ≡ given t
    → (bs ≡ preorder t) × Ranked ar t × Levels t depth_most × (length bs ≤ tree_most)
unfolding read_tree
read_sound ar bs t e =
    let i = refuse_given (wrong_size bs) _ _ (tree_at depth_most ar 0 bs then alone) t e in
    let j = then_given (tree_at depth_most ar 0 bs) alone t i.1 in
    let a = tree_sound depth_most ar 0 bs j.0 j.1 in
    let k = alone_given j.0 t j.2 in (
      a.is ∙ ap (λ (x : List ℕ). preorder j.0.value ++ x) k.1 ∙ append-nil (preorder j.0.value) ∙ ap preorder k.0,
      subst (λ (x : Tree). Ranked ar x) k.0 a.ranks,
      subst (λ (x : Tree). Levels x depth_most) k.0 a.levels,
      (size_right bs i.0).most,
    )

-- Reading is complete.
pub read_complete : (ar bs : List ℕ) (t : Tree) → bs ≡ preorder t → Ranked ar t → Levels t depth_most → length bs ≤ tree_most
    → read_tree ar bs ≡ given t
unfolding read_tree
read_complete ar bs t e h l m =
    let s : Sized bs = record { some = rw e (preorder_some t); most = m } in
    let c = ap (tree_at depth_most ar 0) (e ∙ sym (append-nil (preorder t))) ∙ tree_complete t depth_most ar 0 [] h l in
    rw (right_size bs s, c)

-- The two together.
pub read_tree_lem : (ar bs : List ℕ) (t : Tree)
    → (read_tree ar bs ≡ given t) ↔ ((bs ≡ preorder t) × Ranked ar t × Levels t depth_most × (length bs ≤ tree_most))
read_tree_lem ar bs t = (read_sound ar bs t, λ h. read_complete ar bs t h.0 h.1 h.2 h.3)

-- ---- the specification's numbers

-- 32,768 bytes are not too many, and 32,769 are.
bytes_most : (bs : List ℕ) → length bs ≡ 32768 → wrong_size bs ≡ false
bytes_most bs e = right_size bs (record { some = omega arith; most = omega arith })

bytes_over : (bs : List ℕ) → length bs ≡ 32769 → wrong_size bs ≡ true
bytes_over bs e = wrong_size_lem bs (inr (omega arith))

-- A chain of n symbols over a leaf, as a tree and as bytes.
abbrev chain : ℕ → Tree
chain zero = node 1 ∅
chain (suc n) = node 0 (chain n ▸ ∅)

abbrev chain_bytes : ℕ → List ℕ
chain_bytes n = replicate n 0 ++ 1 ∷ []

-- Depth 64 is read, and depth 65 is number 10 at the leaf.
depth_most_lem : read_tree (1 ∷ 0 ∷ []) (chain_bytes 63) ≡ given (chain 63)
unfolding read_tree tree_at forest_at
depth_most_lem = refl

depth_over : read_tree (1 ∷ 0 ∷ []) (chain_bytes 64) ≡ refused 10 64
unfolding read_tree tree_at forest_at
depth_over = refl
