-- A step that is taken until a measure stays: it comes to rest if the measure is bounded.
use mathlib.Core.Path.{◌≡◌, refl}
use mathlib.Core.Bool.{Bool, true, false}
use Prim.Native.Nat.{ℕ, zero, suc, ◌+◌, ◌≤◌}
use native.Mathlib.Omega.{arith}
use borrow.Author.Tests.{eqb-true, eqb-false}
use lib.Dec.{eqb}
use Rattle.end_laws.specs.Companion.{settle}

module _ {A : Type 0} (m : A → ℕ) (f : A → A) where
  -- What settling gives, by whether the measure stays at once.
  abbrev settled : ℕ → A → Bool → A
  settled n a t = elim t as (λ x. A) [ true ↦ a | false ↦ settle m f n (f a) ]

  -- What a step keeps, settling keeps.
  pub settle_keeps : (P : A → Type 0) → ((a : A) → P a → P (f a)) → (n : ℕ) (a : A) → P a → P (settle m f n a)
  unfolding settle
  settle_keeps P k zero a h = h
  settle_keeps P k (suc n) a h = go (eqb (m (f a)) (m a)) (settle_keeps P k n (f a) (k a h))
    where
      go : (t : Bool) → P (settle m f n (f a)) → P (settled n a t)
      go true i = h
      go false i = i

  -- With enough steps the measure stays in the end, if no step lowers it and it is bounded.
  pub settle_rests : (P : A → Type 0) (bound : ℕ)
      → ((a : A) → P a → P (f a)) → ((a : A) → P a → m a ≤ bound) → ((a : A) → m a ≤ m (f a))
      → (n : ℕ) (a : A) → P a → bound ≤ m a + n → m (f (settle m f n a)) ≡ m (settle m f n a)
  unfolding settle
  settle_rests P bound k b up zero a h e = omega (arith, b (f a) (k a h), up a)
  settle_rests P bound k b up (suc n) a h e = go (eqb (m (f a)) (m a)) refl (λ l. settle_rests P bound k b up n (f a) (k a h) l)
    where
      go : (t : Bool) → eqb (m (f a)) (m a) ≡ t → (bound ≤ m (f a) + n → m (f (settle m f n (f a))) ≡ m (settle m f n (f a)))
          → m (f (settled n a t)) ≡ m (settled n a t)
      go true i j = eqb-true _ _ i
      go false i j = j (above (up a) (eqb-false _ _ i) e)
        where
          above : {x y : ℕ} → x ≤ y → (y ≡ x → ⊥) → bound ≤ x + suc n → bound ≤ y + n
          above l ne e = omega arith
