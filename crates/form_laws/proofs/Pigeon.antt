-- A list of different numbers below n has at most n of them.
use mathlib.Core.Path.{◌≡◌, refl}
use mathlib.Core.Bool.{Bool, true, false}
use mathlib.Core.List.{List, [], ◌∷◌}
use mathlib.Core.Logic.{◌≢◌}
use Prim.Native.Nat.{ℕ, zero, suc, ◌<◌, ◌≤◌}
use native.Mathlib.Omega.{arith}
use lib.Dec.{eqb}
use lib.ListN.{length}
use borrow.Author.Tests.{eqb-true, eqb-false}
use Rattle.form_laws.proofs.Lists.{All, Ordered, all_map, all_both}

-- The list without its first n.
without : ℕ → List ℕ → List ℕ
without n [] = []
without n (x ∷ xs) = elim (eqb x n) [ true ↦ xs | false ↦ x ∷ without n xs ]

-- A list without its first n, by whether its first member is n.
abbrev rid : Bool → ℕ → ℕ → List ℕ → List ℕ
rid b n x xs = elim b as (λ _. List ℕ) [ true ↦ xs | false ↦ x ∷ without n xs ]

-- It is shorter by at most one.
without_length : (n : ℕ) (xs : List ℕ) → length xs ≤ suc (length (without n xs))
unfolding without
without_length n [] = omega arith
without_length n (x ∷ xs) = go (eqb x n) (without_length n xs)
  where
    go : (b : Bool) → length xs ≤ suc (length (without n xs)) → suc (length xs) ≤ suc (length (rid b n x xs))
    go true h = omega arith
    go false h = omega arith

-- What holds of all members holds of those that are left.
without_all : (P : ℕ → Type 0) (n : ℕ) (xs : List ℕ) → All P xs → All P (without n xs)
unfolding without
without_all P n [] h = tt
without_all P n (x ∷ xs) h = go (eqb x n) (without_all P n xs h.1)
  where
    go : (b : Bool) → All P (without n xs) → All P (rid b n x xs)
    go true k = h.1
    go false k = (h.0, k)

-- Different numbers stay so.
without_different : (n : ℕ) (xs : List ℕ) → Ordered ◌≢◌ xs → Ordered ◌≢◌ (without n xs)
unfolding without
without_different n [] h = tt
without_different n (x ∷ xs) h = go (eqb x n) (without_all (λ y. x ≢ y) n xs h.0) (without_different n xs h.1)
  where
    go : (b : Bool) → All (λ y. x ≢ y) (without n xs) → Ordered ◌≢◌ (without n xs) → Ordered ◌≢◌ (rid b n x xs)
    go true k l = h.1
    go false k l = (k, l)

-- Of different numbers below n + 1, those other than n are below n.
without_below : (n : ℕ) (xs : List ℕ) → Ordered ◌≢◌ xs → All (λ x. x < suc n) xs → All (λ x. x < n) (without n xs)
unfolding without
without_below n [] d h = tt
without_below n (x ∷ xs) d h = go (eqb x n) refl (without_below n xs d.1 h.1)
  where
    go : (b : Bool) → eqb x n ≡ b → All (λ y. y < n) (without n xs) → All (λ y. y < n) (rid b n x xs)
    go true e k =
        let f : x ≡ n = eqb-true x n e in
        all_map (λ y. (x ≢ y) × (y < suc n)) (λ y. y < n) (λ y i. omega arith) xs (all_both (λ y. x ≢ y) (λ y. y < suc n) xs d.0 h.1)
    go false e k = (let f : x ≢ n = eqb-false x n e in omega arith, k)

-- A list of different numbers below n has at most n of them.
pub pigeonhole : (n : ℕ) (xs : List ℕ) → Ordered ◌≢◌ xs → All (λ x. x < n) xs → length xs ≤ n
pigeonhole zero [] d h = omega arith
pigeonhole zero (x ∷ xs) d h = absurd (omega arith)
pigeonhole (suc n) xs d h =
    omega (arith, without_length n xs, pigeonhole n (without n xs) (without_different n xs d) (without_below n xs d h))
