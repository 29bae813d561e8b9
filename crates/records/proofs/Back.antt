-- The image is one-to-one, and the record of a tree undoes it.
use mathlib.Core.Path.{◌≡◌, refl, sym, ap, ap₂, subst, ◌∙◌}
use mathlib.Core.Bool.{not}
use mathlib.Core.List.{List}
use mathlib.Core.Logic.{⊎_elim, ◌↔◌}
use Prim.Native.Nat.{ℕ, suc, ◌<◌}
use native.Mathlib.Omega.{arith}
use native.Mathlib.Decide.{dec_lt}
use borrow.Author.Tests.{eqb-true, eqb-false, not-true, not-false, eq-eqb, ne_eqb}
use lib.Dec.{eqb}
use lib.ListN.{length, get_or}
use Rattle.words.specs.Reply.{Reply, given, refusal, refused}
use Rattle.words.proofs.Replies.{given_refused, given_injective, refused_injective, refuse_given, refuse_refused}
use Rattle.machine.specs.Machine.{Tree, Forest, node, ∅, ◌▸◌}
use Rattle.machine.specs.Ranks.{count, Ranked, Rankeds}
use Rattle.trees.specs.Preorder.{preorder}
use Rattle.records.specs.Records.{Element, Elements, element, empty, ◌&◌, Labels, Labelss, absent, beside, images, image}
use Rattle.records.specs.Symbols.{RecordSymbols}
use Rattle.records.specs.Back.{elements_of, elements_in, elements_next, back_in, back}

-- ---- from a record to its image and back
mutual
  unfolding beside images elements_of elements_in elements_next

  pub beside_elements : (e : Element) (a : ℕ) (t : Tree) → elements_of (beside a e t) ≡ e & elements_of t
  beside_elements (element l es) a t = ap (λ (z : Elements). element l z & elements_of t) (images_elements es a)

  pub images_elements : (es : Elements) (a : ℕ) → elements_of (images a es) ≡ es
  images_elements empty a = refl
  images_elements (e & es) a = beside_elements e a (images a es) ∙ ap (λ (z : Elements). e & z) (images_elements es a)

-- Theorem. The record of an image is the record.
pub back_image : (a : ℕ) (r : Element) → back a (image a r) ≡ given r
unfolding beside
back_image a (element l es) = rw (eq-eqb a a refl, images_elements es a)

-- Theorem. The image is one-to-one.
pub image_injective : (a : ℕ) (r s : Element) → image a r ≡ image a s → r ≡ s
image_injective a r s e = given_injective r s (sym (back_image a r) ∙ ap (back a) e ∙ back_image a s)

-- ---- symbol lists for records
module _ (ar : List ℕ) (a : ℕ) (S : RecordSymbols ar a) where
  -- A symbol of arity 0 is the last.
  pub arity_none : (f : ℕ) → f < length ar → 0 ≡ get_or ar f 0 → f ≡ a
  arity_none f h e = go (dec_lt f a)
    where
      go : Dec (f < a) → f ≡ a
      go (yes l) = absurd (omega (arith, S.labels f l))
      go (no l) = omega (arith, S.many)

  -- A symbol with children is a label, and has two.
  pub arity_some : (f k : ℕ) → f < length ar → suc k ≡ get_or ar f 0 → (f < a) × (k ≡ 1)
  arity_some f k h e = go (dec_lt f a)
    where
      go : Dec (f < a) → (f < a) × (k ≡ 1)
      go (yes l) = (l, omega (arith, S.labels f l))
      go (no l) =
          let i : f ≡ a = omega (arith, S.many) in
          let j : get_or ar f 0 ≡ 0 = ap (λ (z : ℕ). get_or ar z 0) i ∙ S.last in
          absurd (omega (arith, j, e))

  -- The image of a record is a ranked tree.
  mutual
    unfolding beside images

    beside_ranked : (e : Element) (t : Tree) → Labels a e → Ranked ar t → Ranked ar (beside a e t)
    beside_ranked (element l es) t h k = (omega (arith, S.many, h.0), sym (S.labels l h.0), (images_ranked es h.1, (k, tt)))

    pub images_ranked : (es : Elements) → Labelss a es → Ranked ar (images a es)
    images_ranked empty h = (omega (arith, S.many), sym S.last, tt)
    images_ranked (e & es) h = beside_ranked e (images a es) h.0 (images_ranked es h.1)

  pub image_ranked : (r : Element) → Labels a r → Ranked ar (image a r)
  image_ranked r h = beside_ranked r (absent a) h (omega (arith, S.many), sym S.last, tt)

  -- ---- from a ranked tree to its elements and back
  mutual
    unfolding beside images elements_of elements_in elements_next

    pub elements_images : (t : Tree) → Ranked ar t → images a (elements_of t) ≡ t
    elements_images (node f ts) h = elements_in_images ts f h.0 h.1 h.2

    elements_in_images : (ts : Forest) (f : ℕ) → f < length ar → count ts ≡ get_or ar f 0 → Rankeds ar ts → images a (elements_in ts f) ≡ node f ts
    elements_in_images ∅ f h c k = ap absent (sym (arity_none f h c))
    elements_in_images (t ▸ ts) f h c k =
        ap₂ (λ (x : Tree) (y : Forest). node f (x ▸ y)) (elements_images t k.0) (elements_next_images ts (arity_some f (count ts) h c).1 k.1)

    elements_next_images : (ts : Forest) → count ts ≡ 1 → Rankeds ar ts → images a (elements_next ts) ▸ ∅ ≡ ts
    elements_next_images ∅ c k = absurd (omega arith)
    elements_next_images (t ▸ ts) c k = ap₂ (λ (x : Tree) (y : Forest). x ▸ y) (elements_images t k.0) (no_tree ts (omega arith))

    no_tree : (ts : Forest) → count ts ≡ 0 → ∅ ≡ ts
    no_tree ∅ c = refl
    no_tree (t ▸ ts) c = absurd (omega arith)

  mutual
    unfolding elements_of elements_in elements_next

    pub elements_labels : (t : Tree) → Ranked ar t → Labelss a (elements_of t)
    elements_labels (node f ts) h = elements_in_labels ts f h.0 h.1 h.2

    elements_in_labels : (ts : Forest) (f : ℕ) → f < length ar → count ts ≡ get_or ar f 0 → Rankeds ar ts → Labelss a (elements_in ts f)
    elements_in_labels ∅ f h c k = tt
    elements_in_labels (t ▸ ts) f h c k = (((arity_some f (count ts) h c).0, elements_labels t k.0), elements_next_labels ts k.1)

    elements_next_labels : (ts : Forest) → Rankeds ar ts → Labelss a (elements_next ts)
    elements_next_labels ∅ k = tt
    elements_next_labels (t ▸ ts) k = elements_labels t k.0

  -- A ranked tree with the last symbol at its root is a leaf.
  last_leaf : (us : Forest) (g : ℕ) → g ≡ a → count us ≡ get_or ar g 0 → node g us ≡ absent a
  last_leaf ∅ g e c = ap absent e
  last_leaf (u ▸ us) g e c = let j : get_or ar g 0 ≡ 0 = ap (λ (z : ℕ). get_or ar z 0) e ∙ S.last in absurd (omega (arith, j, c))

  back_in_sound : (f : ℕ) (ts : Forest) (r : Element) → Ranked ar (node f ts) → back_in a f ts ≡ given r → (node f ts ≡ image a r) × Labels a r
  unfolding beside
  back_in_sound f ∅ r h e = absurd (given_refused r 24 0 (sym e))
  back_in_sound f (t ▸ ∅) r h e = absurd (given_refused r 24 0 (sym e))
  back_in_sound f (t ▸ node g us ▸ ts) r h e =
      let i = refuse_given (not (eqb g a)) 24 (suc (length (preorder t))) (given (element f (elements_of t))) r e in
      let j = given_injective (element f (elements_of t)) r i.1 in
      let s = arity_some f (suc (count ts)) h.0 h.1 in
      let k = last_leaf us g (eqb-true g a (not-false (eqb g a) i.0)) h.2.1.0.1 in
      let m : ts ≡ ∅ = sym (no_tree ts (omega (arith, s.1))) in
      let n : node f (t ▸ node g us ▸ ts) ≡ image a (element f (elements_of t)) =
      ap (λ (x : Tree). node f (x ▸ node g us ▸ ts)) (sym (elements_images t h.2.0))
      ∙ ap₂ (λ (x : Tree) (y : Forest). node f (images a (elements_of t) ▸ x ▸ y)) k m in
      (n ∙ ap (image a) j, subst (Labels a) j (s.0, elements_labels t h.2.0))

  -- Theorem. A ranked tree of which a record is told is the image of that record, whose labels are in the list.
  pub back_sound : (t : Tree) (r : Element) → Ranked ar t → back a t ≡ given r → (t ≡ image a r) × Labels a r
  back_sound (node f ts) r h e = back_in_sound f ts r h e

  -- ---- 24
  -- Why a tree is no image: it is a lone leaf, or the root's second child is not the last symbol.
  pub data NoImage (t : Tree) (p : ℕ) : Type 0 where
    leaf : t ≡ absent a → p ≡ 0 → NoImage t p
    second : (f : ℕ) (x : Tree) (g : ℕ) (us : Forest) → t ≡ node f (x ▸ node g us ▸ ∅) → (g ≡ a → ⊥) → p ≡ suc (length (preorder x)) → NoImage t p

  back_in_reason : (f : ℕ) (ts : Forest) (n p : ℕ) → Ranked ar (node f ts) → back_in a f ts ≡ refused n p → (n ≡ 24) × NoImage (node f ts) p
  back_in_reason f ∅ n p h e =
      let i = refused_injective {A = Element} 24 0 n p e in
      (i.0, leaf (ap absent (arity_none f h.0 h.1)) i.1)
  back_in_reason f (t ▸ ∅) n p h e = absurd (omega (arith, (arity_some f 0 h.0 h.1).1))
  back_in_reason f (t ▸ node g us ▸ ts) n p h e =
      let s = arity_some f (suc (count ts)) h.0 h.1 in
      let m : ts ≡ ∅ = sym (no_tree ts (omega (arith, s.1))) in
      ⊎_elim (λ i. (i.1, second f t g us (ap (λ (z : Forest). node f (t ▸ node g us ▸ z)) m) (eqb-false g a (not-true (eqb g a) i.0)) i.2))
      (λ i. absurd (given_refused _ n p i.1))
      (refuse_refused (not (eqb g a)) 24 (suc (length (preorder t))) (given (element f (elements_of t))) n p e)

  reason_back : (t : Tree) (p : ℕ) → NoImage t p → back a t ≡ refused 24 p
  reason_back t p (leaf e i) = ap (back a) e ∙ ap (λ (z : ℕ). refused 24 z) (sym i)
  reason_back t p (second f x g us e h i) = ap (back a) e ∙ go ∙ ap (λ (z : ℕ). refused 24 z) (sym i)
    where
      go : back a (node f (x ▸ node g us ▸ ∅)) ≡ refused 24 (suc (length (preorder x)))
      go = rw (ne_eqb g a h)

  -- Theorem. A ranked tree is refused with 24 exactly for one of the two reasons, at its place, and with no other number.
  pub back_refused : (t : Tree) (n p : ℕ) → Ranked ar t → (back a t ≡ refused n p) ↔ ((n ≡ 24) × NoImage t p)
  back_refused t n p h = (λ e. go t h e, λ k. reason_back t p k.1 ∙ ap (λ (z : ℕ). refused z p) (sym k.0))
    where
      go : (t : Tree) → Ranked ar t → back a t ≡ refused n p → (n ≡ 24) × NoImage t p
      go (node f ts) h e = back_in_reason f ts n p h e

  -- Theorem. 24 is told exactly for ranked trees that are no record's image.
  pub back_none : (t : Tree) → Ranked ar t → ((p : ℕ) × (back a t ≡ refused 24 p)) ↔ ((r : Element) → t ≡ image a r → ⊥)
  back_none t h = (λ k r i. given_refused r 24 k.0 (sym (back_image a r) ∙ ap (back a) (sym i) ∙ k.1), λ k. go (back a t) refl k)
    where
      go : (o : Reply Element) → back a t ≡ o → ((r : Element) → t ≡ image a r → ⊥) → (p : ℕ) × (back a t ≡ refused 24 p)
      go (given r) e k = absurd (k r (back_sound t r h e).0)
      go (refusal x) e k = (x.place, reason_back t x.place ((back_refused t x.number x.place h).0 e).1)
