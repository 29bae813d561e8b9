-- Each record with labels in the list is read back from its stream.
use mathlib.Core.Path.{◌≡◌, refl, sym, ap, ◌∙◌}
use mathlib.Core.List.{List, [], ◌∷◌, ◌++◌, append_assoc, append-nil}
use Prim.Native.Nat.{ℕ, suc, ◌+◌, ◌<◌, ◌≤◌}
use native.Mathlib.Nat.{add-zero}
use native.Mathlib.Omega.{arith}
use borrow.Author.Tests.{lt-ltb, ne_eqb}
use lib.ListN.{length, length-append}
use Rattle.words.specs.Reply.{Reply, given, ◌then◌}
use Rattle.words.proofs.Replies.{given_injective}
use Rattle.records.specs.Records.{Element, Elements, element, empty, ◌&◌, Labels, Labelss, close, bytes_of, bytes_ofs}
use Rattle.records.specs.Stream.{Open, StreamStage, reading, append, holding, placed, step, read_from, read_record}

-- Elements behind others, one by one.
append_one : (xs : Elements) (e : Element) (es : Elements) → append (append xs (e & empty)) es ≡ append xs (e & es)
append_one empty e es = refl
append_one (x & xs) e es = ap (λ (z : Elements). x & z) (append_one xs e es)

append_empty : (xs : Elements) → append xs empty ≡ xs
append_empty empty = refl
append_empty (x & xs) = ap (λ (z : Elements). x & z) (append_empty xs)

-- An open element with more elements inside.
abbrev filled : Open → Elements → Open
filled o es = record { label = o.label; inside = append o.inside es }

-- A label is a step.
pub label_step : (a : ℕ) (os : List Open) (p l : ℕ) → a ≤ 255 → l < a → step a (reading os) p l ≡ given (reading (record { label = l; inside = empty } ∷ os))
label_step a os p l m h = rw (step, ne_eqb l 255 (λ e. omega arith), lt-ltb l a h)

-- The streams of an element, and of elements inside an open one, with anything behind.
mutual
  unfolding bytes_of bytes_ofs read_from

  pub element_read : (e : Element) (a : ℕ) (os : List Open) (p : ℕ) (rest : List ℕ) → a ≤ 255 → Labels a e
      → read_from a (reading os) p (bytes_of e ++ rest) ≡ read_from a (placed os e) (p + length (bytes_of e)) rest
  element_read (element l es) a os p rest m h =
      let o : Open = record { label = l; inside = empty } in
      let i = ap (λ (z : Reply StreamStage). z then λ s. read_from a s (suc p) ((bytes_ofs es ++ close ∷ []) ++ rest)) (label_step a os p l m h.0) in
      let j = ap (read_from a (reading (o ∷ os)) (suc p)) (append_assoc (bytes_ofs es) (close ∷ []) rest) in
      let k = elements_read es a o os (suc p) (close ∷ rest) m h.1 in
      let q : suc (suc p + length (bytes_ofs es)) ≡ p + suc (length (bytes_ofs es ++ close ∷ [])) = omega (arith, length-append (bytes_ofs es) (close ∷ [])) in
      i ∙ j ∙ k ∙ ap (λ (z : ℕ). read_from a (placed os (element l es)) z rest) q

  pub elements_read : (es : Elements) (a : ℕ) (o : Open) (os : List Open) (p : ℕ) (rest : List ℕ) → a ≤ 255 → Labelss a es
      → read_from a (reading (o ∷ os)) p (bytes_ofs es ++ rest) ≡ read_from a (reading (filled o es ∷ os)) (p + length (bytes_ofs es)) rest
  elements_read empty a o os p rest m h =
      let i : filled o empty ≡ o = ap (λ (z : Elements). record { label = o.label; inside = z }) (append_empty o.inside) in
      rw (i, add-zero)
  elements_read (e & es) a o os p rest m h =
      let i = element_read e a (o ∷ os) p (bytes_ofs es ++ rest) m h.0 in
      let j = elements_read es a (holding o e) os (p + length (bytes_of e)) rest m h.1 in
      let k : filled (holding o e) es ≡ filled o (e & es) = ap (λ (z : Elements). record { label = o.label; inside = z }) (append_one o.inside e es) in
      let q : p + length (bytes_of e) + length (bytes_ofs es) ≡ p + length (bytes_of e ++ bytes_ofs es) = omega
      (arith, length-append (bytes_of e) (bytes_ofs es)) in
      ap (read_from a (reading (o ∷ os)) p) (append_assoc (bytes_of e) (bytes_ofs es) rest) ∙ i ∙ j
      ∙ ap (λ (z : Open). read_from a (reading (z ∷ os)) (p + length (bytes_of e) + length (bytes_ofs es)) rest) k
      ∙ ap (λ (z : ℕ). read_from a (reading (filled o (e & es) ∷ os)) z rest) q

-- Theorem. Every record with labels in the list is read back from its stream.
pub read_back : (a : ℕ) (r : Element) → a ≤ 255 → Labels a r → read_record a (bytes_of r) ≡ given r
unfolding read_from read_record
read_back a r m h = ap (read_from a (reading []) 0) (sym (append-nil (bytes_of r))) ∙ element_read r a [] 0 [] m h

-- So records with one stream are one record.
pub bytes_injective : (a : ℕ) (r s : Element) → a ≤ 255 → Labels a r → Labels a s → bytes_of r ≡ bytes_of s → r ≡ s
bytes_injective a r s m h k e = given_injective r s (sym (read_back a r m h) ∙ ap (read_record a) e ∙ read_back a s m k)
