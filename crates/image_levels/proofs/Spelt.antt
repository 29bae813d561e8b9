-- The bytes of a record with a leaf's byte in place of ff, beside the symbols of its image: which bytes are leaves there. Assumes nothing.
use mathlib.Core.Path.{◌≡◌, refl, sym, ap, ◌∙◌}
use mathlib.Core.List.{List, [], ◌∷◌, ◌++◌, map}
use mathlib.Core.Logic.{◌⊎◌, inl, inr}
use Prim.Native.Nat.{ℕ, zero, suc, ◌<◌, ◌≤◌}
use native.Mathlib.Omega.{arith}
use native.Mathlib.Decide.{ℕ_discrete}
use lib.ListN.{length, get_or, drop}
use Rattle.trees.specs.Preorder.{preorder}
use Rattle.records.specs.Records.{Element, Elements, element, empty, ◌&◌, Labels, Labelss, close, bytes_of, bytes_ofs, image, spell}
use Rattle.records.proofs.Image.{spell_label, image_preorder}

-- Symbol f stands for byte b: the last symbol a for a leaf, else a label.
pub record StandsFor (a leaf b f : ℕ) : Type 0 where
  pub leaf_is : b ≡ leaf → f ≡ a
  pub label_is : (b ≡ leaf → ⊥) → f < a

-- Symbols stand for bytes, and one last symbol more.
abbrev pub SymbolsFor : ℕ → ℕ → List ℕ → List ℕ → Type 0
SymbolsFor a leaf [] fs = fs ≡ a ∷ []
SymbolsFor a leaf (b ∷ bs) [] = ⊥
SymbolsFor a leaf (b ∷ bs) (f ∷ fs) = StandsFor a leaf b f × SymbolsFor a leaf bs fs

-- There is one symbol more than bytes.
pub spelt_long : (a leaf : ℕ) (bs fs : List ℕ) → SymbolsFor a leaf bs fs → length fs ≡ suc (length bs)
spelt_long a leaf [] fs h = ap length h
spelt_long a leaf (b ∷ bs) [] h = absurd h
spelt_long a leaf (b ∷ bs) (f ∷ fs) h = ap suc (spelt_long a leaf bs fs h.1)

-- The symbol at a byte's place stands for it.
pub spelt_at : (a leaf : ℕ) (bs fs : List ℕ) (i : ℕ) → SymbolsFor a leaf bs fs → i < length bs → StandsFor a leaf (get_or bs i 0) (get_or fs i 0)
spelt_at a leaf [] fs i h l = absurd (omega arith)
spelt_at a leaf (b ∷ bs) [] i h l = absurd h
spelt_at a leaf (b ∷ bs) (f ∷ fs) zero h l = h.0
spelt_at a leaf (b ∷ bs) (f ∷ fs) (suc i) h l = spelt_at a leaf bs fs i h.1 (omega arith)

-- No symbol is above the last.
pub spelt_low : (a leaf : ℕ) (bs fs : List ℕ) (i : ℕ) → SymbolsFor a leaf bs fs → i < length fs → get_or fs i 0 ≤ a
spelt_low a leaf [] [] i h l = absurd (omega arith)
spelt_low a leaf [] (f ∷ fs) zero h l = let e : f ≡ a = cc in omega arith
spelt_low a leaf [] (f ∷ fs) (suc i) h l = let e : fs ≡ [] = cc in absurd (omega (arith, ap length e))
spelt_low a leaf (b ∷ bs) [] i h l = absurd h
spelt_low a leaf (b ∷ bs) (f ∷ fs) zero h l = go (ℕ_discrete b leaf)
  where
    go : Dec (b ≡ leaf) → f ≤ a
    go (yes e) = omega (arith, h.0.leaf_is e)
    go (no e) = omega (arith, h.0.label_is e)
spelt_low a leaf (b ∷ bs) (f ∷ fs) (suc i) h l = spelt_low a leaf bs fs i h.1 (omega arith)

-- Behind the bytes the last symbol is left.
pub spelt_last : (a leaf : ℕ) (bs fs : List ℕ) → SymbolsFor a leaf bs fs → drop (length bs) fs ≡ a ∷ []
spelt_last a leaf [] fs h = h
spelt_last a leaf (b ∷ bs) [] h = absurd h
spelt_last a leaf (b ∷ bs) (f ∷ fs) h = spelt_last a leaf bs fs h.1

-- Bytes that are labels below a, or ff.
abbrev StreamBytes : ℕ → List ℕ → Type 0
StreamBytes a [] = Unit {0}
StreamBytes a (b ∷ bs) = ((b ≡ close) ⊎ (b < a)) × StreamBytes a bs

bytes_append : (a : ℕ) (s t : List ℕ) → StreamBytes a s → StreamBytes a t → StreamBytes a (s ++ t)
bytes_append a [] t h k = k
bytes_append a (b ∷ s) t h k = (h.0, bytes_append a s t h.1 k)

-- The bytes of a record are of these.
mutual
  unfolding bytes_of bytes_ofs

  element_bytes : (e : Element) (a : ℕ) → Labels a e → StreamBytes a (bytes_of e)
  element_bytes (element l es) a h = (inr h.0, bytes_append a (bytes_ofs es) (close ∷ []) (elements_bytes es a h.1) (inl refl, tt))

  elements_bytes : (es : Elements) (a : ℕ) → Labelss a es → StreamBytes a (bytes_ofs es)
  elements_bytes empty a h = tt
  elements_bytes (e & es) a h = bytes_append a (bytes_of e) (bytes_ofs es) (element_bytes e a h.0) (elements_bytes es a h.1)

-- A byte of a stream, spelled with the last symbol, stands for it, spelled with the leaf's byte.
spelt_byte : (a leaf b : ℕ) → a ≤ leaf → leaf ≤ 255 → (b ≡ close) ⊎ (b < a) → StandsFor a leaf (spell leaf b) (spell a b)
spelt_byte a leaf b h m (inl e) = record { leaf_is = λ z. rw e; label_is = λ z. absurd (z (rw e)) }
spelt_byte a leaf b h m (inr l) =
    let i = spell_label leaf b m (omega arith) in
    let j = spell_label a b (omega arith) l in
    record { leaf_is = λ z. absurd (omega (arith, sym i ∙ z)); label_is = λ z. omega (arith, j) }

spelt_bytes : (s : List ℕ) (a leaf : ℕ) → a ≤ leaf → leaf ≤ 255 → StreamBytes a s → SymbolsFor a leaf (map (spell leaf) s) (map (spell a) s ++ a ∷ [])
spelt_bytes [] a leaf h m k = refl
spelt_bytes (b ∷ s) a leaf h m k = (spelt_byte a leaf b h m k.0, spelt_bytes s a leaf h m k.1)

-- The symbols of a record's image stand for its bytes.
pub image_spelt : (a leaf : ℕ) (r : Element) (bs : List ℕ) → a ≤ leaf → leaf ≤ 255 → Labels a r → bs ≡ map (spell leaf) (bytes_of r)
    → SymbolsFor a leaf bs (preorder (image a r))
image_spelt a leaf r bs h m k e = rw (e, image_preorder a r (omega arith) k) (spelt_bytes (bytes_of r) a leaf h m (element_bytes r a k))
