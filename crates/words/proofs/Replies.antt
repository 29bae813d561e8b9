-- What an answer made by `then` or `refuse_if` tells of the answers that it is made of.
use mathlib.Core.Path.{◌≡◌, refl, sym, ap}
use mathlib.Core.Bool.{Bool, true, false}
use mathlib.Core.Logic.{◌⊎◌, inl, inr}
use Prim.Native.Nat.{ℕ}
use native.Mathlib.Omega.{arith}
use Rattle.words.specs.declared.No.{No}
use Rattle.words.specs.Reply.{Reply, given, refusal, no_at, refused, ◌then◌, refuse_if}

-- The no of an answer, and any for a yes.
abbrev no_of : {A : Type 0} → Reply A → No
no_of (given a) = no_at 0 0
no_of (refusal x) = x

module _ {A : Type 0} where
  -- A yes is no refusal.
  pub given_refused : (a : A) (n p : ℕ) → given a ≡ refused n p → ⊥
  given_refused a n p e = let z : ◌≡◌ {A = ℕ} 0 1 = cc in omega arith

  -- Two equal yeses hold one value.
  pub given_injective : (a b : A) → ◌≡◌ {A = Reply A} (given a) (given b) → a ≡ b
  given_injective a b e = cc

  -- Equal refusals are one no.
  pub refusal_injective : (x y : No) → ◌≡◌ {A = Reply A} (refusal x) (refusal y) → x ≡ y
  refusal_injective x y e = ap no_of e

  -- Two equal refusals have one number and one place.
  pub refused_injective : (n p x y : ℕ) → ◌≡◌ {A = Reply A} (refused n p) (refused x y) → (x ≡ n) × (y ≡ p)
  refused_injective n p x y e =
      let i = refusal_injective (no_at n p) (no_at x y) e in
      (sym (ap (λ (z : No). z.number) i), sym (ap (λ (z : No). z.place) i))

  -- A yes comes past the test.
  pub refuse_given : (b : Bool) (n p : ℕ) (o : Reply A) (a : A) → refuse_if b n p o ≡ given a → (b ≡ false) × (o ≡ given a)
  refuse_given true n p o a e = let z : ◌≡◌ {A = ℕ} 0 1 = cc in absurd (omega arith)
  refuse_given false n p o a e = (refl, e)

  -- A refusal is the test's or comes past it.
  pub refuse_refused : (b : Bool) (n p : ℕ) (o : Reply A) (x y : ℕ) → refuse_if b n p o ≡ refused x y
      → ((b ≡ true) × (x ≡ n) × (y ≡ p)) ⊎ ((b ≡ false) × (o ≡ refused x y))
  refuse_refused true n p o x y e = let i = refused_injective n p x y e in inl (refl, i.0, i.1)
  refuse_refused false n p o x y e = inr (refl, e)

  -- A yes of two steps has a yes of each.
  pub then_given : {B : Type 0} (o : Reply A) (k : A → Reply B) (b : B) → o then k ≡ given b → (a : A) × (o ≡ given a) × (k a ≡ given b)
  then_given (given a) k b e = (a, refl, e)
  then_given (refusal o) k b e = let z : ◌≡◌ {A = ℕ} 0 1 = cc in absurd (omega arith)

  -- A refusal of two steps is the first's, or the second's behind a yes of the first.
  pub then_refused : {B : Type 0} (o : Reply A) (k : A → Reply B) (x y : ℕ) → o then k ≡ refused x y
      → (o ≡ refused x y) ⊎ ((a : A) × (o ≡ given a) × (k a ≡ refused x y))
  then_refused (given a) k x y e = inr (a, refl, e)
  then_refused (refusal o) k x y e = inl (ap refusal (ap no_of e))
