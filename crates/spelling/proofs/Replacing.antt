-- Laws of a byte replaced by another; of putting bytes to the front of a room with one of them replaced: one byte more, all, and one byte behind all.
use mathlib.Core.Path.{◌≡◌, refl, sym, ap, ◌∙◌}
use mathlib.Core.List.{List, ◌∷◌, ◌++◌, map}
use Prim.Native.Nat.{ℕ, suc, ◌+◌, ◌<◌}
use native.Mathlib.Numerals.{add-one}
use native.Mathlib.Omega.{arith}
use borrow.Author.Tests.{eq-eqb, ne_eqb}
use lib.ListN.{length, get_or, take, drop, set, length-map, get_or-map}
use lib.Seq.{length-take-le, take_all, take-suc, drop-cons, set_at, append_snoc}
use Rattle.records.specs.Records.{replaced}

-- The byte to replace, and any other.
pub replaced_old : (old new b : ℕ) → b ≡ old → new ≡ replaced old new b
replaced_old old new b e = rw (replaced, eq-eqb b old e) refl

pub replaced_other : (old new b : ℕ) → (b ≡ old → ⊥) → b ≡ replaced old new b
replaced_other old new b d = rw (replaced, ne_eqb b old d) refl

-- A byte stored behind what stands before i.
store : (xs R : List ℕ) (i x : ℕ) → length xs ≡ i → i < length R → set (xs ++ drop i R) i x ≡ xs ++ x ∷ drop (suc i) R
store xs R i x e h = ap (λ (r : List ℕ). set (xs ++ r) i x) (drop-cons R i 0 h) ∙ set_at xs (get_or R i 0) (drop (suc i) R) x i e

-- The first i of some bytes at the front of the room, and one more.
front_more : (xs R : List ℕ) (i z : ℕ) → i < length xs → i < length R → set (take i xs ++ drop i R) i (get_or xs i z) ≡ take (suc i) xs ++ drop (suc i) R
front_more xs R i z h k =
    store (take i xs) R i (get_or xs i z) (length-take-le i xs (omega arith)) k
    ∙ sym (append_snoc (take i xs) (get_or xs i z) (drop (suc i) R))
    ∙ ap (λ (r : List ℕ). r ++ drop (suc i) R) (sym (take-suc xs i z h))

-- The room R with the first i of the bytes, one of them replaced, at its front.
abbrev pub replaced_for : ℕ → ℕ → ℕ → List ℕ → List ℕ → List ℕ
replaced_for i old new bytes R = take i (map (replaced old new) bytes) ++ drop i R

module _ (old new : ℕ) (bytes R : List ℕ) where
  -- One byte more.
  pub replaced_more : (i x : ℕ) → i < length bytes → i < length R → x ≡ replaced old new (get_or bytes i 0)
      → set (replaced_for i old new bytes R) i x ≡ replaced_for (i + 1) old new bytes R
  replaced_more i x h k e =
      let f = replaced old new in
      ap (λ (y : ℕ). set (replaced_for i old new bytes R) i y) (e ∙ sym (get_or-map f bytes i 0))
      ∙ front_more (map f bytes) R i (f 0) (omega (arith, length-map bytes f)) k
      ∙ ap (λ (j : ℕ). replaced_for j old new bytes R) (sym (add-one i))

  -- All bytes.
  pub replaced_all : (i : ℕ) → i ≡ length bytes → replaced_for i old new bytes R ≡ map (replaced old new) bytes ++ drop (length bytes) R
  replaced_all i e =
      ap (λ (r : List ℕ). r ++ drop i R) (take_all i (map (replaced old new) bytes) (omega (arith, length-map bytes (replaced old new))))
      ∙ ap (λ (j : ℕ). map (replaced old new) bytes ++ drop j R) e

  -- A byte more behind all.
  pub replaced_then : (x : ℕ) → length bytes < length R
      → set (map (replaced old new) bytes ++ drop (length bytes) R) (length bytes) x ≡ map (replaced old new) bytes ++ x ∷ drop (suc (length bytes)) R
  replaced_then x h = store (map (replaced old new) bytes) R (length bytes) x (length-map bytes (replaced old new)) h
