-- The image: its preorder is the stream, spelled in symbols, and one last symbol more.
use mathlib.Core.Path.{◌≡◌, refl, sym, ap, ap₂, ◌∙◌}
use mathlib.Core.List.{List, [], ◌∷◌, ◌++◌, append_assoc, append-nil, map, map-append}
use Prim.Native.Nat.{ℕ, ◌+◌, ◌*◌, ◌<◌, ◌≤◌}
use native.Mathlib.Omega.{arith}
use borrow.Author.Tests.{ne_eqb}
use lib.ListN.{length, length-append, length-map}
use Rattle.machine.specs.Machine.{Tree}
use Rattle.trees.specs.Preorder.{preorder, preorders}
use Rattle.records.specs.Records.{Element, Elements, element, empty, ◌&◌, Labels, Labelss, close, bytes_of}
use Rattle.records.specs.Records.{bytes_ofs, size, sizes, absent, beside, images, image, replaced, spell}

-- A label is spelled as it is.
pub spell_label : (a l : ℕ) → a ≤ 255 → l < a → spell a l ≡ l
spell_label a l m h = rw (ne_eqb l 255 (λ e. omega arith), replaced)

mutual
  unfolding preorder preorders bytes_of bytes_ofs beside images

  -- An element and what stands beside it.
  pub beside_preorder : (e : Element) (a : ℕ) (t : Tree) → a ≤ 255 → Labels a e → preorder (beside a e t) ≡ map (spell a) (bytes_of e) ++ preorder t
  beside_preorder (element l es) a t m h =
      let i : preorder (images a es) ≡ map (spell a) (bytes_ofs es ++ close ∷ []) = images_preorder es a m h.1
      ∙ sym (map-append (spell a) (bytes_ofs es) (close ∷ [])) in
      ap₂ ◌∷◌ (sym (spell_label a l m h.0)) (ap₂ ◌++◌ i (append-nil (preorder t)))

  -- Elements beside each other.
  pub images_preorder : (es : Elements) (a : ℕ) → a ≤ 255 → Labelss a es → preorder (images a es) ≡ map (spell a) (bytes_ofs es) ++ a ∷ []
  images_preorder empty a m h = refl
  images_preorder (e & es) a m h =
      beside_preorder e a (images a es) m h.0
      ∙ ap (λ (x : List ℕ). map (spell a) (bytes_of e) ++ x) (images_preorder es a m h.1)
      ∙ sym (append_assoc (map (spell a) (bytes_of e)) (map (spell a) (bytes_ofs es)) (a ∷ []))
      ∙ ap (λ (x : List ℕ). x ++ a ∷ []) (sym (map-append (spell a) (bytes_of e) (bytes_ofs es)))

-- Theorem. The preorder of a record's image is its stream with each ff replaced by the last symbol, and one last symbol more at the end.
pub image_preorder : (a : ℕ) (r : Element) → a ≤ 255 → Labels a r → preorder (image a r) ≡ map (spell a) (bytes_of r) ++ a ∷ []
unfolding preorder preorders
image_preorder a r m h = beside_preorder r a (absent a) m h

-- A record of e elements has a stream of 2e bytes.
mutual
  unfolding bytes_of bytes_ofs size sizes

  pub bytes_length : (e : Element) → length (bytes_of e) ≡ 2 * size e
  bytes_length (element l es) = omega (arith, length-append (bytes_ofs es) (close ∷ []), bytess_length es)

  pub bytess_length : (es : Elements) → length (bytes_ofs es) ≡ 2 * sizes es
  bytess_length empty = refl
  bytess_length (e & es) = omega (arith, length-append (bytes_of e) (bytes_ofs es), bytes_length e, bytess_length es)

-- So its image has 2e + 1 symbols.
pub image_length : (a : ℕ) (r : Element) → a ≤ 255 → Labels a r → length (preorder (image a r)) ≡ 2 * size r + 1
image_length a r m h =
    ap length (image_preorder a r m h) ∙ omega (arith, length-append (map (spell a) (bytes_of r)) (a ∷ []), length-map (bytes_of r) (spell a), bytes_length r)
