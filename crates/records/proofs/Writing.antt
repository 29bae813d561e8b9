-- Writing a record back from the bytes of its tree, one by one, with the reading's counter.
use mathlib.Core.Path.{◌≡◌, refl, sym, ap, ap₂, subst, ◌∙◌}
use mathlib.Core.List.{List, [], ◌∷◌, ◌++◌, append_assoc, append-nil, map, map-append}
use Prim.Native.Nat.{ℕ, zero, suc, ◌+◌, ◌<◌, ◌≤◌}
use native.Mathlib.Omega.{arith}
use borrow.Author.Tests.{eq-eqb, ne_eqb, lt-ltb}
use lib.ListN.{length, length-map}
use Rattle.words.specs.Reply.{Reply, given, refusal, refused, ◌then◌}
use Rattle.machine.specs.Machine.{Tree, Forest, node, ∅, ◌▸◌}
use Rattle.machine.specs.Ranks.{Ranked}
use Rattle.trees.specs.Preorder.{preorder, preorders}
use Rattle.records.specs.Records.{Element, Elements, element, empty, ◌&◌, Labels, Labelss, close}
use Rattle.records.specs.Records.{bytes_of, bytes_ofs, absent, beside, images, image, replaced, unspell}
use Rattle.records.specs.Stream.{StreamStage, ended, step, read_from, read_record}
use Rattle.records.specs.Symbols.{RecordSymbols}
use Rattle.records.specs.Back.{elements_of, elements_in, elements_next, back}
use Rattle.records.proofs.Complete.{element_read}
use Rattle.records.proofs.Back.{beside_elements, arity_none, elements_images, elements_labels, back_sound, back_refused, NoImage, leaf, second}

-- The last symbol closes, and a label stays as it is.
unspell_last : (a : ℕ) → unspell a a ≡ close
unspell_last a = rw (replaced, eq-eqb a a refl)

unspell_label : (a l : ℕ) → l < a → unspell a l ≡ l
unspell_label a l h = rw (replaced, ne_eqb l a (λ e. omega arith))

mutual
  unfolding preorder preorders bytes_of bytes_ofs beside images

  pub beside_unspelled : (e : Element) (a : ℕ) (t : Tree) → Labels a e → map (unspell a) (preorder (beside a e t)) ≡ bytes_of e ++ map (unspell a) (preorder t)
  beside_unspelled (element l es) a t h =
      ap₂ ◌∷◌ (unspell_label a l h.0)
      (map-append (unspell a) (preorder (images a es)) (preorder t ++ [])
      ∙ ap₂ ◌++◌ (images_unspelled es a h.1) (ap (map (unspell a)) (append-nil (preorder t))))

  pub images_unspelled : (es : Elements) (a : ℕ) → Labelss a es → map (unspell a) (preorder (images a es)) ≡ bytes_ofs es ++ close ∷ []
  images_unspelled empty a h = ap (λ (z : ℕ). z ∷ []) (unspell_last a)
  images_unspelled (e & es) a h =
      beside_unspelled e a (images a es) h.0
      ∙ ap (λ (z : List ℕ). bytes_of e ++ z) (images_unspelled es a h.1)
      ∙ sym (append_assoc (bytes_of e) (bytes_ofs es) (close ∷ []))

-- Theorem. The bytes of a record's image, each last symbol replaced by ff, are its stream and one ff more.
pub image_unspelled : (a : ℕ) (r : Element) → Labels a r → map (unspell a) (preorder (image a r)) ≡ bytes_of r ++ close ∷ []
unfolding preorder preorders
image_unspelled a r h = beside_unspelled r a (absent a) h ∙ ap (λ (z : ℕ). bytes_of r ++ z ∷ []) (unspell_last a)

-- What the reading tells of several elements one after the other: nothing is left open at 0; one is the record; a second is 23 behind the first.
abbrev pub root_of : Elements → Reply Element
root_of empty = refused 22 0
root_of (e & empty) = given e
root_of (e & (x & xs)) = refused 23 (length (bytes_of e))

-- A label behind the root's end.
pub label_behind : (a : ℕ) (r : Element) (p l : ℕ) → a ≤ 255 → l < a → step a (ended r) p l ≡ refused 23 p
label_behind a r p l m h = rw (step, ne_eqb l 255 (λ e. omega arith), lt-ltb l a h)

behind : (es : Elements) (a : ℕ) (e : Element) → a ≤ 255 → Labelss a es → read_from a (ended e) (length (bytes_of e)) (bytes_ofs es) ≡ root_of (e & es)
unfolding read_from bytes_of bytes_ofs
behind empty a e m h = refl
behind (element l xs & es) a e m h =
    ap (λ (z : Reply StreamStage). z then λ s. read_from a s (suc (length (bytes_of e))) ((bytes_ofs xs ++ close ∷ []) ++ bytes_ofs es))
    (label_behind a e (length (bytes_of e)) l m h.0.0)

pub elements_root : (es : Elements) (a : ℕ) → a ≤ 255 → Labelss a es → read_record a (bytes_ofs es) ≡ root_of es
unfolding read_record read_from bytes_ofs
elements_root empty a m h = refl
elements_root (e & es) a m h =
    let i : 0 + length (bytes_of e) ≡ length (bytes_of e) = omega arith in
    element_read e a [] 0 (bytes_ofs es) m h.0 ∙ ap (λ (z : ℕ). read_from a (ended e) z (bytes_ofs es)) i ∙ behind es a e m h.1

-- 24 at a place, as the reading of the tree's bytes tells it.
abbrev pub retold_at : ℕ → Reply Element
retold_at zero = refused 22 0
retold_at (suc p) = refused 23 (suc p)

-- The answer for a tree as the reading of its bytes tells it.
abbrev pub retold : Reply Element → Reply Element
retold (given r) = given r
retold (refusal x) = retold_at x.place

module _ (ar : List ℕ) (a : ℕ) (S : RecordSymbols ar a) where
  -- The bytes of a ranked tree, each last symbol replaced by ff, are a stream and one ff more.
  pub tree_unspelled : (t : Tree) → Ranked ar t → map (unspell a) (preorder t) ≡ bytes_ofs (elements_of t) ++ close ∷ []
  tree_unspelled t h =
      ap (λ (z : Tree). map (unspell a) (preorder z)) (sym (elements_images ar a S t h)) ∙ images_unspelled (elements_of t) a (elements_labels ar a S t h)

  -- An element over a ranked tree is as long as that tree and its label.
  element_length : (f : ℕ) (x : Tree) → Ranked ar x → length (bytes_of (element f (elements_of x))) ≡ suc (length (preorder x))
  unfolding bytes_of
  element_length f x h = ap suc (sym (ap length (tree_unspelled x h)) ∙ length-map (preorder x) (unspell a))

  -- A root with a second child that is not the last symbol.
  root_second : (us : Forest) (f : ℕ) (x : Tree) (g : ℕ) → Ranked ar x → Ranked ar (node g us) → (g ≡ a → ⊥)
      → root_of (element f (elements_of x) & elements_in us g) ≡ refused 23 (suc (length (preorder x)))
  unfolding elements_in
  root_second ∅ f x g h k q = absurd (q (arity_none ar a S g k.0 k.1))
  root_second (u ▸ us) f x g h k q = ap (λ (z : ℕ). refused 23 z) (element_length f x h)

  root_reason : (t : Tree) → Ranked ar t → (n p : ℕ) → NoImage ar a S t p → root_of (elements_of t) ≡ retold (refused n p)
  unfolding elements_of elements_in elements_next
  root_reason t h n p (leaf e i) = ap (λ (z : Tree). root_of (elements_of z)) e ∙ ap (λ (z : ℕ). retold (refused n z)) (sym i)
  root_reason t h n p (second f x g us e q i) =
      let k = subst (Ranked ar) e h in
      ap (λ (z : Tree). root_of (elements_of z)) e ∙ root_second us f x g k.2.0 k.2.1.0 q ∙ ap (λ (z : ℕ). retold (refused n z)) (sym i)

  root_back : (t : Tree) → Ranked ar t → (o : Reply Element) → back a t ≡ o → root_of (elements_of t) ≡ retold o
  unfolding elements_of elements_in
  root_back t h (given r) e =
      ap (λ (z : Tree). root_of (elements_of z)) (back_sound ar a S t r h e).0 ∙ ap root_of (beside_elements r a (absent a))
  root_back t h (refusal x) e = root_reason t h x.number x.place ((back_refused ar a S t x.number x.place h).0 e).1

  -- Theorem. The reading of a ranked tree's bytes, each last symbol replaced by ff and the last byte left out, gives the tree's
  -- record; or tells 22 at 0 for a lone leaf, and 23 at the place of 24 otherwise.
  pub tree_read_lem : (t : Tree) → a ≤ 255 → Ranked ar t → read_record a (bytes_ofs (elements_of t)) ≡ retold (back a t)
  tree_read_lem t m h = elements_root (elements_of t) a m (elements_labels ar a S t h) ∙ root_back t h (back a t) refl
