-- Laws of the number of letters 20: of no letter, of one letter more, of one piece more.
use mathlib.Core.Path.{◌≡◌, refl, ap, ◌∙◌}
use mathlib.Core.Bool.{Bool, true, false}
use mathlib.Core.List.{[], ◌∷◌}
use Prim.Native.Nat.{ℕ, suc, ◌+◌, ◌-◌, ◌<◌, ◌≤◌}
use native.Mathlib.Nat.{min-le_left}
use native.Mathlib.Numerals.{add-one}
use native.Mathlib.Omega.{arith}
use lib.Dec.{eqb}
use mir.Val.{bool_byte}
use lib.ListN.{length, get_or, take, drop, length-take, length-drop, take-append-drop}
use lib.Seq.{take-suc, take-add, take_all}
use Rattle.words.specs.Word.{Word, spaces, terms}
use Rattle.words.proofs.Terms.{spaces_append, spaces_length}

-- The empty word has none.
pub spaces_none : spaces [] ≡ 0
unfolding spaces
spaces_none = refl

-- What a test for letter 20 adds is what one letter has.
pub spaces_one : (x : ℕ) → bool_byte (eqb x 32) ≡ spaces (x ∷ [])
unfolding spaces
spaces_one x = go (eqb x 32)
  where
    go : (b : Bool) → bool_byte b ≡ elim b as (λ y. ℕ) [ true ↦ 1 | false ↦ 0 ]
    go true = refl
    go false = refl

-- The count after one letter more.
pub counted : (u : Word) (i n k : ℕ) → i < length u → n ≡ spaces (take i u) → k ≡ spaces (get_or u i 0 ∷ []) → n + k ≡ spaces (take (i + 1) u)
counted u i n k h e o = rw (add-one, take-suc u i 0, spaces_append) (omega arith)

-- The letters from `at` on, as they are lent.
from : (u : Word) (at : ℕ) → take (length u - at) (drop at u) ≡ drop at u
from u at = take_all (length u - at) (drop at u) (omega (arith, length-drop at u))

-- The count after one piece more.
pub piece : (u : Word) (at k n p : ℕ) → n ≡ suc (spaces (take at u)) → p ≡ spaces (take (at + k - at) (drop at u))
    → n + p ≡ suc (spaces (take (at + k) u))
piece u at k n p e f =
    let len : at + k - at ≡ k = omega arith in
    rw (take-add at k u, spaces_append) (omega (arith, e, f ∙ ap (λ (m : ℕ). spaces (take m (drop at u))) len))

-- The count after the last piece.
pub all : (u : Word) (at n p : ℕ) → n ≡ suc (spaces (take at u)) → p ≡ spaces (take (length u - at) (drop at u)) → n + p ≡ terms u
unfolding terms
all u at n p e f = omega (arith, rw (from u at) at f, spaces_append (take at u) (drop at u), ap spaces (take-append-drop at u))

-- The first letters have at most as many letters 20 as there are.
pub most : (u : Word) (at : ℕ) → spaces (take at u) ≤ at
most u at = omega (arith, spaces_length (take at u), length-take at u, min-le_left at (length u))
