-- Trees read one after the other, each with its own levels allowed, over a symbol list for records: what one symbol does. Assumes nothing.
use mathlib.Core.Path.{◌≡◌, refl}
use mathlib.Core.List.{List, [], ◌∷◌}
use mathlib.Core.Logic.{◌⊎◌, inl, inr}
use Prim.Native.Nat.{ℕ, zero, suc, ◌<◌}
use native.Mathlib.Omega.{arith}
use borrow.Author.Tests.{lt-ltb, ne_eqb}
use lib.ListN.{length}
use Rattle.words.specs.Reply.{Reply, given, refusal, refused, ◌then◌, mapped}
use Rattle.machine.specs.Machine.{Tree, Forest, node, ∅, ◌▸◌}
use Rattle.trees.specs.Causes.{Sized}
use Rattle.trees.specs.Shape.{Read, forest_at, node_at, tree_at, alone, read_tree, depth_most}
use Rattle.trees.proofs.Whole.{right_size}
use Rattle.records.specs.Symbols.{RecordSymbols}

-- What is told of bytes behind the last tree: 11 if there are any.
abbrev pub nothing_at : ℕ → List ℕ → Reply (Unit {0})
nothing_at p [] = given tt
nothing_at p (b ∷ bs) = refused 11 p

-- What is told of trees one after the other, from place p on, with the levels allowed for each; the last number stands for what is behind
-- them, where nothing may be.
unfoldable pub row : List ℕ → List ℕ → ℕ → List ℕ → Reply (Unit {0})
row ar [] p bs = nothing_at p bs
row ar (n ∷ []) p bs = nothing_at p bs
row ar (n ∷ m ∷ ns) p bs = tree_at n ar p bs then λ r. row ar (m ∷ ns) r.place r.left

-- A tree alone, its value left out.
alone_told : (r : Read Tree) → mapped (λ t. tt) (alone r) ≡ nothing_at r.place r.left
alone_told r = go r.left refl
  where
    go : (bs : List ℕ) → r.left ≡ bs → mapped (λ t. tt) (alone r) ≡ nothing_at r.place r.left
    go [] e = rw e
    go (b ∷ bs) e = rw (e, ne_eqb (suc (length bs)) 0 (λ z. omega arith))

-- The reading of tree bytes is that of one tree with all levels, and nothing behind it.
pub row_read : (ar bs : List ℕ) → Sized bs → mapped (λ t. tt) (read_tree ar bs) ≡ row ar (depth_most ∷ 0 ∷ []) 0 bs
unfolding row read_tree
row_read ar bs s = rw (right_size bs s) (go (tree_at depth_most ar 0 bs))
  where
    go : (o : Reply (Read Tree)) → mapped (λ t. tt) (o then alone) ≡ o then λ r. nothing_at r.place r.left
    go (given r) = alone_told r
    go (refusal x) = refl

-- Where no level is left for the next tree: 10, or 11 where none is to come.
pub row_none : (ar ns : List ℕ) (p f : ℕ) (bs : List ℕ) → f < length ar
    → (row ar (0 ∷ ns) p (f ∷ bs) ≡ refused 10 p) ⊎ (row ar (0 ∷ ns) p (f ∷ bs) ≡ refused 11 p)
unfolding row tree_at
row_none ar [] p f bs h = inr refl
row_none ar (m ∷ ns) p f bs h = inl (rw (lt-ltb f (length ar) h))

-- A tree with trees behind it, trees below a symbol, and no tree, where a tree ends.
abbrev behind : Read Tree → Read Forest → Read Forest
behind r s = record { value = r.value ▸ s.value; place = s.place; left = s.left }

abbrev below : ℕ → Read Forest → Read Tree
below f s = record { value = node f s.value; place = s.place; left = s.left }

abbrev no_more : Read Tree → Read Forest
no_more r = record { value = ∅; place = r.place; left = r.left }

-- What is told of the bytes behind a tree.
abbrev behind_tree : (ℕ → List ℕ → Reply (Unit {0})) → Read Tree → Reply (Unit {0})
behind_tree others r = others r.place r.left

-- Two trees below a symbol, and then others.
row_two : (tree : ℕ → List ℕ → Reply (Read Tree)) (others : ℕ → List ℕ → Reply (Unit {0})) (f p : ℕ) (bs : List ℕ)
    → (node_at f (forest_at tree 2) p bs then behind_tree others) ≡ (tree (suc p) bs then λ r. tree r.place r.left then behind_tree others)
unfolding forest_at
row_two tree others f p bs = first (tree (suc p) bs)
  where
    second : (r : Read Tree) (o : Reply (Read Tree))
        → ((((o then λ s. given (behind s (no_more s))) then λ s. given (behind r s)) then λ s. given (below f s)) then behind_tree others)
        ≡ (o then behind_tree others)
    second r (given s) = refl
    second r (refusal x) = refl

    first : (o : Reply (Read Tree))
        → (((o then λ r. forest_at tree 1 r.place r.left then λ s. given (behind r s)) then λ s. given (below f s)) then behind_tree others)
        ≡ (o then λ r. tree r.place r.left then behind_tree others)
    first (given r) = second r (tree r.place r.left)
    first (refusal x) = refl

module _ (ar : List ℕ) (a : ℕ) (S : RecordSymbols ar a) where
  -- The last symbol is a whole tree.
  pub row_leaf : (n m : ℕ) (ns : List ℕ) (p : ℕ) (bs : List ℕ) → row ar (suc n ∷ m ∷ ns) p (a ∷ bs) ≡ row ar (m ∷ ns) (suc p) bs
  unfolding row tree_at forest_at
  row_leaf n m ns p bs = rw (lt-ltb a (length ar) (omega (arith, S.many)), S.last)

  -- A label has two trees below it, with a level fewer.
  pub row_label : (n m : ℕ) (ns : List ℕ) (p f : ℕ) (bs : List ℕ) → f < a
      → row ar (suc n ∷ m ∷ ns) p (f ∷ bs) ≡ row ar (n ∷ n ∷ m ∷ ns) (suc p) bs
  unfolding row tree_at forest_at
  row_label n m ns p f bs h = rw (lt-ltb f (length ar) (omega (arith, S.many)), S.labels f h) (row_two (tree_at n ar) (row ar (m ∷ ns)) f p bs)

  -- The last symbol at the end is given, or told by 8 or 11.
  pub row_end : (n : ℕ) (ns : List ℕ) (p : ℕ) → (row ar (suc n ∷ ns) p (a ∷ []) ≡ given tt)
      ⊎ (row ar (suc n ∷ ns) p (a ∷ []) ≡ refused 8 (suc p)) ⊎ (row ar (suc n ∷ ns) p (a ∷ []) ≡ refused 11 p)
  unfolding row tree_at
  row_end n [] p = inr (inr refl)
  row_end n (m ∷ []) p = inl (row_leaf n m [] p [])
  row_end n (zero ∷ k ∷ ns) p = inr (inl (row_leaf n zero (k ∷ ns) p []))
  row_end n (suc m ∷ k ∷ ns) p = inr (inl (row_leaf n (suc m) (k ∷ ns) p []))
