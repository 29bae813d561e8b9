-- The shape of a tree, one step at a time: what its first symbol settles, and how it follows from the trees below. Assumes nothing.
use mathlib.Core.Path.{◌≡◌, refl, sym, ap, ◌∙◌}
use mathlib.Core.List.{List, [], ◌∷◌}
use Prim.Native.Nat.{ℕ, zero, suc, ◌+◌, ◌-◌, ◌<◌, ◌≤◌}
use native.Mathlib.Numerals.{add-one, sub-one}
use native.Mathlib.Omega.{arith}
use borrow.Author.Tests.{le-ltb, lt-ltb}
use lib.ListN.{length, get_or, drop, drop_of_length-le}
use lib.Seq.{drop-append_seam, drop-cons, drop-drop}
use Rattle.words.specs.Reply.{Reply, given, refusal, refused, ◌then◌}
use Rattle.machine.specs.Machine.{Tree, Forest, node, ◌▸◌}
use Rattle.trees.specs.Preorder.{preorder}
use Rattle.trees.specs.Shape.{Read, forest_at, tree_at}
use Rattle.trees.proofs.Shape.{tree_sound}
use Rattle.words.specs.declared.No.{No}
use Rattle.shape.specs.Shaped.{ends}

-- The bytes that are left behind a tree are those from its end on.
pub left_behind : (n : ℕ) (ar S : List ℕ) (p : ℕ) (r : Read Tree) → tree_at n ar p (drop p S) ≡ given r → r.left ≡ drop r.place S
left_behind n ar S p r e =
    let i = tree_sound n ar p (drop p S) r e in
    let m : ℕ = length (preorder r.value) in
    sym (drop-append_seam (preorder r.value) r.left)
    ∙ ap (λ (l : List ℕ). drop m l) (sym i.is)
    ∙ drop-drop m p S
    ∙ ap (λ (k : ℕ). drop k S) (sym i.ends)

-- The end is that of what was read, whatever is made of the value.
ends_made : {A B : Type 0} (make : A → B) (o : Reply (Read A))
    → ends (o then λ r. given (record { value = make r.value; place = r.place; left = r.left })) ≡ ends o
ends_made make (given r) = refl
ends_made make (refusal x) = refl

-- A refusal of the first step is that of both.
refused_then : {A B : Type 0} (o : Reply (Read A)) (k : Read A → Reply (Read B)) (x : No) → refusal x ≡ ends o → refusal x ≡ ends (o then k)
refused_then (given r) k x h = cc
refused_then (refusal y) k x h = h

-- A tree that ends at `after`, with what `more` reads from there on.
ends_then : (S : List ℕ) (o : Reply (Read Tree)) (more : ℕ → List ℕ → Reply (Read Forest)) (after : ℕ)
    → ((r : Read Tree) → o ≡ given r → r.left ≡ drop r.place S) → given after ≡ ends o
    → ends (o then λ r. more r.place r.left then λ x. given (record { value = r.value ▸ x.value; place = x.place; left = x.left }))
    ≡ ends (more after (drop after S))
ends_then S (given r) more after left h =
    let i : r.place ≡ after = cc in
    let e : more r.place r.left ≡ more after (drop after S) = ap (more r.place) (left r refl) ∙ ap (λ (k : ℕ). more k (drop k S)) i in
    ends_made (λ ts. r.value ▸ ts) (more r.place r.left) ∙ ap (λ (o : Reply (Read Forest)). ends o) e
ends_then S (refusal x) more after left h = cc

-- No trees end where they begin.
pub none_end : (tree : ℕ → List ℕ → Reply (Read Tree)) (k p : ℕ) (bs : List ℕ) → k ≤ 0 → given p ≡ ends (forest_at tree k p bs)
unfolding forest_at
none_end tree zero p bs h = refl
none_end tree (suc k) p bs h = absurd (omega arith)

-- Trees are refused as the first of them is.
pub first_refused : (tree : ℕ → List ℕ → Reply (Read Tree)) (k p : ℕ) (bs : List ℕ) (x : No) → 0 < k → refusal x ≡ ends (tree p bs)
    → refusal x ≡ ends (forest_at tree k p bs)
unfolding forest_at
first_refused tree zero p bs x i h = absurd (omega arith)
first_refused tree (suc k) p bs x i h = refused_then (tree p bs) _ x h

-- Behind the first tree, those that remain end where all of them do.
pub first_ends : (n : ℕ) (ar S : List ℕ) (k p after : ℕ) → 0 < k → given after ≡ ends (tree_at n ar p (drop p S))
    → ends (forest_at (tree_at n ar) k p (drop p S)) ≡ ends (forest_at (tree_at n ar) (k - 1) after (drop after S))
unfolding forest_at
first_ends n ar S zero p after i h = absurd (omega arith)
first_ends n ar S (suc k) p after i h =
    rw sub-one (ends_then S (tree_at n ar p (drop p S)) (forest_at (tree_at n ar) k) after (left_behind n ar S p) h)

-- With no bytes left the answer is 8.
tree_stops : (n : ℕ) (ar : List ℕ) (p : ℕ) → tree_at n ar p [] ≡ refused 8 p
unfolding tree_at
tree_stops zero ar p = refl
tree_stops (suc n) ar p = refl

-- For a symbol that is not in the list the answer is 7, also where no level is left.
tree_unknown : (n : ℕ) (ar : List ℕ) (p f : ℕ) (bs : List ℕ) → length ar ≤ f → tree_at n ar p (f ∷ bs) ≡ refused 7 p
unfolding tree_at
tree_unknown zero ar p f bs h = rw (le-ltb f (length ar) h)
tree_unknown (suc n) ar p f bs h = rw (le-ltb f (length ar) h)

-- For a symbol of the list with no level left the answer is 10.
tree_deep : (ar : List ℕ) (p f : ℕ) (bs : List ℕ) → f < length ar → tree_at zero ar p (f ∷ bs) ≡ refused 10 p
unfolding tree_at
tree_deep ar p f bs h = rw (lt-ltb f (length ar) h)

-- For a symbol of the list with a level left the tree ends where the trees below it do.
tree_node : (n : ℕ) (ar : List ℕ) (p f : ℕ) (bs : List ℕ) → f < length ar
    → ends (tree_at (suc n) ar p (f ∷ bs)) ≡ ends (forest_at (tree_at n ar) (get_or ar f 0) (suc p) bs)
unfolding tree_at
tree_node n ar p f bs h = rw (lt-ltb f (length ar) h) (ends_made (node f) (forest_at (tree_at n ar) (get_or ar f 0) (suc p) bs))

-- A tree that begins at the end of the bytes stops early.
pub stops_early : (n : ℕ) (ar S : List ℕ) (at : ℕ) → at ≡ length S → refused 8 at ≡ ends (tree_at n ar at (drop at S))
stops_early n ar S at h = rw (drop_of_length-le S {i = at} (omega arith), tree_stops n ar at) refl

module _ (n symbols at f : ℕ) (ar S : List ℕ) (here : at < length S) (is : f ≡ get_or S at 0) (many : symbols ≡ length ar) where
  -- The bytes from `at` on are the symbol there and what stands behind it.
  begins : drop at S ≡ f ∷ drop (suc at) S
  begins = drop-cons S at 0 here ∙ ap (λ (x : ℕ). x ∷ drop (suc at) S) (sym is)

  -- A symbol that is not in the list.
  pub unknown : symbols ≤ f → refused 7 at ≡ ends (tree_at n ar at (drop at S))
  unknown h = let i : length ar ≤ f = omega arith in rw (begins, tree_unknown n ar at f (drop (suc at) S) i) refl

  -- A symbol of the list with no level left for it.
  pub too_deep : f < symbols → n ≡ 0 → refused 10 at ≡ ends (tree_at n ar at (drop at S))
  too_deep h e = let i : f < length ar = omega arith in rw (begins, e, tree_deep ar at f (drop (suc at) S) i) refl

  -- The tree ends where the trees below its symbol do.
  pub node_below : (k : ℕ) → f < symbols → (n ≡ 0 → ⊥) → k ≡ get_or ar f 0
      → ends (tree_at n ar at (drop at S)) ≡ ends (forest_at (tree_at (n - 1) ar) k (at + 1) (drop (at + 1) S))
  node_below k h l e =
      let i : f < length ar = omega arith in
      let a : n ≡ suc (n - 1) = omega (arith, l) in
      ap (λ (m : ℕ). ends (tree_at m ar at (drop at S))) a
      ∙ ap (λ (bs : List ℕ). ends (tree_at (suc (n - 1)) ar at bs)) begins
      ∙ rw (add-one, e) (tree_node (n - 1) ar at f (drop (suc at) S) i)
