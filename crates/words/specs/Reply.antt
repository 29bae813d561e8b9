-- Answers: yes with what it holds, or one number of no with its place. Definitions only.
use Rattle.std.specs.Prelude.{Bool, true, false, ℕ, Result}
use Rattle.words.specs.declared.No.{No}
pub use Rattle.std.specs.declared.result.Result.TheVariants.{Ok as given, Err as refusal}

-- Yes with what it holds, or the no.
abbrev pub Reply : Type 0 → Type 0
Reply A = Result A No

-- The no with number n and place p, and the answer that is this no.
abbrev pub no_at : ℕ → ℕ → No
no_at n p = record { number = n; place = p }

abbrev pub refused : {A : Type 0} → ℕ → ℕ → Reply A
refused n p = refusal (no_at n p)

-- What is done with the value of a yes; a no is handed on.
infixl 60 ◌then◌
abbrev pub ◌then◌ : {A B : Type 0} → Reply A → (A → Reply B) → Reply B
(given a) then k = k a
(refusal x) then k = refusal x

-- Refused with number n at place p if the test holds, and otherwise the other answer.
abbrev pub refuse_if : {A : Type 0} → Bool → ℕ → ℕ → Reply A → Reply A
refuse_if true n p r = refused n p
refuse_if false n p r = r

-- A yes with another value, made of its own; a no stays.
abbrev pub mapped : {A B : Type 0} → (A → B) → Reply A → Reply B
mapped f (given a) = given (f a)
mapped f (refusal x) = refusal x
