-- Where two symbol lists part.
use mathlib.Core.Path.{◌≡◌, ap, ◌∙◌}
use mathlib.Core.Bool.{Bool, true, false}
use mathlib.Core.List.{List, [], ◌∷◌}
use mathlib.Core.Option.{Option, none, some}
use Rattle.std.specs.Prelude.{min, max}
use Prim.Native.Nat.{ℕ, zero, suc, ◌<◌, ◌≤◌}
use native.Mathlib.Omega.{arith}
use borrow.Author.Tests.{eq-eqb, ne_eqb}
use lib.ListN.{length, get_or}
use lib.Seq.{ext_get_or}
use Rattle.promises.specs.Comparison.{parting, later}
use Rattle.promises.proofs.Comparison as comparison
use Rattle.same_symbols.specs.Parting.{AlikeFor}

-- Symbol lists that are the same part nowhere.
parting_none : (xs ys : List ℕ) → length xs ≡ length ys → ((j : ℕ) → j < length xs → get_or xs j 0 ≡ get_or ys j 0) → parting xs ys ≡ none
parting_none xs ys l e = (comparison.parting_none xs ys).1 (ext_get_or 0 xs ys l e)

-- Symbol lists that are the same before i, and differ at i or end there, part at i.
parting_some : (xs ys : List ℕ) (i : ℕ) → i ≤ length xs → i ≤ length ys → ((j : ℕ) → j < i → get_or xs j 0 ≡ get_or ys j 0)
    → (i < length xs → i < length ys → get_or xs i 0 ≡ get_or ys i 0 → ⊥) → (i ≡ length xs → i ≡ length ys → ⊥) → parting xs ys ≡ some i
unfolding parting
parting_some [] [] i h k e d n = absurd (n (omega arith) (omega arith))
parting_some [] (y ∷ ys) i h k e d n = ap (λ (j : ℕ). some j) (omega arith)
parting_some (x ∷ xs) [] i h k e d n = ap (λ (j : ℕ). some j) (omega arith)
parting_some (x ∷ xs) (y ∷ ys) zero h k e d n =
    ap (λ (b : Bool). elim b as (λ x. Option ℕ) [ true ↦ later (parting xs ys) | false ↦ some zero ]) (ne_eqb x y (d (omega arith) (omega arith)))
parting_some (x ∷ xs) (y ∷ ys) (suc i) h k e d n =
    ap (λ (b : Bool). elim b as (λ x. Option ℕ) [ true ↦ later (parting xs ys) | false ↦ some zero ]) (eq-eqb x y (e 0 (omega arith)))
    ∙ ap later
    (parting_some xs ys i (omega arith) (omega arith) (λ j l. e (suc j) (omega arith)) (λ a b. d (omega arith) (omega arith))
    (λ a b. n (omega arith) (omega arith)))

module _ {xs ys : List ℕ} {n m both i : ℕ} (c : n ≡ length xs) (d : m ≡ length ys) (l : both ≡ min n m) (a : AlikeFor xs ys both i) where
  -- Alike for all symbols of both: the lists part nowhere.
  pub parted_nowhere : i ≡ max n m → parting xs ys ≡ none
  parted_nowhere h =
      let b = a.most in
      parting_none xs ys (omega arith) (λ j z. a.same j (omega arith))

  -- Alike up to i only, or to the end of the shorter list: they part at i.
  pub parted_at : (i ≡ max n m → ⊥) → parting xs ys ≡ some i
  parted_at o =
      let b = a.most in
      parting_some xs ys i (omega arith) (omega arith) a.same (λ h k e. a.apart (omega arith) e) (λ h k. o (omega arith))
