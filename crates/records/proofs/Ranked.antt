-- The bytes of a ranked tree, and so of a record's image, are refused as a tree with 6 or 10 only.
use mathlib.Core.Path.{◌≡◌, sym, ap, ◌∙◌}
use mathlib.Core.List.{List, [], ◌++◌, append_assoc, append-nil}
use mathlib.Core.Logic.{◌⊎◌, inl, inr}
use Prim.Native.Nat.{ℕ, zero, suc, ◌+◌, ◌<◌, ◌≤◌}
use native.Mathlib.Nat.{add-zero}
use native.Mathlib.Omega.{arith}
use native.Mathlib.Decide.{dec_lt}
use borrow.Author.Tests.{lt-ltb}
use lib.ListN.{length, get_or, length-append}
use Rattle.words.specs.Reply.{Reply, given, refused, ◌then◌}
use Rattle.words.proofs.Replies.{given_refused, given_injective, refused_injective}
use Rattle.machine.specs.Machine.{Tree, Forest, node, ∅, ◌▸◌}
use Rattle.machine.specs.Ranks.{count, Ranked, Rankeds}
use Rattle.trees.specs.Preorder.{preorder, preorders}
use Rattle.trees.specs.Shape.{Read, forest_at, tree_at, alone, read_tree, tree_most, depth_most}
use Rattle.trees.proofs.Preorder.{preorder_some}
use Rattle.trees.proofs.Whole.{right_size, wrong_size_lem}
use Rattle.records.specs.Records.{Element, Labels, image}
use Rattle.records.specs.Symbols.{RecordSymbols}
use Rattle.records.proofs.Back.{image_ranked}

-- That value is given, or 10 is told.
abbrev pub Only : {A : Type 0} → Reply A → A → Type 0
Only o r = (o ≡ given r) ⊎ ((q : ℕ) × (o ≡ refused 10 q))

-- What was read of a tree, and of trees.
abbrev tree_read : Tree → ℕ → List ℕ → Read Tree
tree_read t p rest = record { value = t; place = p + length (preorder t); left = rest }

abbrev forest_read : Forest → ℕ → List ℕ → Read Forest
forest_read ts p rest = record { value = ts; place = p + length (preorders ts); left = rest }

node_only : (f : ℕ) (ts : Forest) (n : ℕ) (ar : List ℕ) (p : ℕ) (rest : List ℕ) → f < length ar → count ts ≡ get_or ar f 0
    → Only (forest_at (tree_at n ar) (count ts) (suc p) (preorders ts ++ rest)) (forest_read ts (suc p) rest)
    → Only (tree_at (suc n) ar p (preorder (node f ts) ++ rest)) (tree_read (node f ts) p rest)
unfolding preorder tree_at
node_only f ts n ar p rest h k (inl c) =
    let i : suc p + length (preorders ts) ≡ p + suc (length (preorders ts)) = omega arith in
    inl (rw (lt-ltb f (length ar) h, ← k, c, i))
node_only f ts n ar p rest h k (inr c) = inr (c.0, rw (lt-ltb f (length ar) h, ← k, c.1))

more_only : (t : Tree) (ts : Forest) (n : ℕ) (ar : List ℕ) (p : ℕ) (rest : List ℕ)
    → Only (tree_at n ar p (preorder t ++ (preorders ts ++ rest))) (tree_read t p (preorders ts ++ rest))
    → Only (forest_at (tree_at n ar) (count ts) (p + length (preorder t)) (preorders ts ++ rest)) (forest_read ts (p + length (preorder t)) rest)
    → Only (forest_at (tree_at n ar) (count (t ▸ ts)) p (preorders (t ▸ ts) ++ rest)) (forest_read (t ▸ ts) p rest)
unfolding preorders forest_at
more_only t ts n ar p rest (inl a) (inl b) =
    let i : p + length (preorder t) + length (preorders ts) ≡ p + length (preorder t ++ preorders ts) = omega
    (arith, length-append (preorder t) (preorders ts)) in
    inl (rw (append_assoc (preorder t) (preorders ts) rest, a, b, i))
more_only t ts n ar p rest (inl a) (inr b) = inr (b.0, rw (append_assoc (preorder t) (preorders ts) rest, a, b.1))
more_only t ts n ar p rest (inr a) b = inr (a.0, rw (append_assoc (preorder t) (preorders ts) rest, a.1))

mutual
  unfolding preorder preorders tree_at forest_at

  tree_only : (t : Tree) (n : ℕ) (ar : List ℕ) (p : ℕ) (rest : List ℕ) → Ranked ar t → Only (tree_at n ar p (preorder t ++ rest)) (tree_read t p rest)
  tree_only (node f ts) zero ar p rest h = inr (p, rw (lt-ltb f (length ar) h.0))
  tree_only (node f ts) (suc n) ar p rest h = node_only f ts n ar p rest h.0 h.1 (forest_only ts n ar (suc p) rest h.2)

  forest_only : (ts : Forest) (n : ℕ) (ar : List ℕ) (p : ℕ) (rest : List ℕ) → Rankeds ar ts
      → Only (forest_at (tree_at n ar) (count ts) p (preorders ts ++ rest)) (forest_read ts p rest)
  forest_only ∅ n ar p rest h = inl (rw add-zero)
  forest_only (t ▸ ts) n ar p rest h =
      more_only t ts n ar p rest (tree_only t n ar p (preorders ts ++ rest) h.0) (forest_only ts n ar (p + length (preorder t)) rest h.1)

-- The bytes of a ranked tree, where they are not too many, are read as that tree, or refused with 10.
pub ranked_only : (ar : List ℕ) (t : Tree) → Ranked ar t → length (preorder t) ≤ tree_most → Only (read_tree ar (preorder t)) t
unfolding read_tree
ranked_only ar t h m = rw (right_size (preorder t) (record { some = preorder_some t; most = m })) (go (tree_only t depth_most ar 0 [] h))
  where
    go : Only (tree_at depth_most ar 0 (preorder t ++ [])) (tree_read t 0 []) → Only (tree_at depth_most ar 0 (preorder t) then alone) t
    go (inl c) = inl (rw (sym (append-nil (preorder t))) (ap (λ (z : Reply (Read Tree)). z then alone) c))
    go (inr c) = inr (c.0, rw (sym (append-nil (preorder t))) (ap (λ (z : Reply (Read Tree)). z then alone) c.1))

-- They are too many: 6.
pub tree_long : (ar bs : List ℕ) → tree_most < length bs → read_tree ar bs ≡ refused 6 0
unfolding read_tree
tree_long ar bs m = rw (wrong_size_lem bs (inr m))

-- The bytes of a ranked tree are given as that tree, or refused with 6 for their length alone, or with 10.
pub ranked_told : (ar : List ℕ) (t : Tree) → Ranked ar t
    → Only (read_tree ar (preorder t)) t ⊎ ((read_tree ar (preorder t) ≡ refused 6 0) × (tree_most < length (preorder t)))
ranked_told ar t h = go (dec_lt tree_most (length (preorder t)))
  where
    go : Dec (tree_most < length (preorder t))
        → Only (read_tree ar (preorder t)) t ⊎ ((read_tree ar (preorder t) ≡ refused 6 0) × (tree_most < length (preorder t)))
    go (yes m) = inr (tree_long ar (preorder t) m, m)
    go (no m) = inl (ranked_only ar t h (omega arith))

-- What is read from the bytes of a ranked tree is that tree.
pub ranked_read : (ar : List ℕ) (t x : Tree) → Ranked ar t → read_tree ar (preorder t) ≡ given x → t ≡ x
ranked_read ar t x h e = go (ranked_told ar t h)
  where
    go : Only (read_tree ar (preorder t)) t ⊎ ((read_tree ar (preorder t) ≡ refused 6 0) × (tree_most < length (preorder t))) → t ≡ x
    go (inl (inl c)) = given_injective t x (sym c ∙ e)
    go (inl (inr c)) = absurd (given_refused x 10 c.0 (sym e ∙ c.1))
    go (inr c) = absurd (given_refused x 6 0 (sym e ∙ c.0))

-- Theorem. The bytes of a ranked tree are refused with 6 for their length alone, or with 10.
pub ranked_refused : (ar : List ℕ) (t : Tree) (x q : ℕ) → Ranked ar t → read_tree ar (preorder t) ≡ refused x q
    → ((x ≡ 6) × (q ≡ 0) × (tree_most < length (preorder t))) ⊎ (x ≡ 10)
ranked_refused ar t x q h e = go (ranked_told ar t h)
  where
    go : Only (read_tree ar (preorder t)) t ⊎ ((read_tree ar (preorder t) ≡ refused 6 0) × (tree_most < length (preorder t)))
        → ((x ≡ 6) × (q ≡ 0) × (tree_most < length (preorder t))) ⊎ (x ≡ 10)
    go (inl (inl c)) = absurd (given_refused t x q (sym c ∙ e))
    go (inl (inr c)) = inr (refused_injective {A = Tree} 10 c.0 x q (sym c.1 ∙ e)).0
    go (inr c) = let i = refused_injective {A = Tree} 6 0 x q (sym c.0 ∙ e) in inl (i.0, i.1, c.1)

-- So 7, 8 and 11 cannot come for a record.
pub image_refused : (ar : List ℕ) (a : ℕ) → RecordSymbols ar a → (r : Element) (x q : ℕ) → Labels a r → read_tree ar (preorder (image a r)) ≡ refused x q
    → ((x ≡ 6) × (q ≡ 0) × (tree_most < length (preorder (image a r)))) ⊎ (x ≡ 10)
image_refused ar a S r x q h e = ranked_refused ar (image a r) x q (image_ranked ar a S r h) e
