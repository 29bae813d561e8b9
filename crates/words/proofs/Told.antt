-- A test's answer: yes, no, carried over.
use mathlib.Core.Path.{sym}
use mathlib.Core.Bool.{Bool, true, false, true≢false}
use Rattle.words.specs.Told.{Told}

-- Yes, where A holds.
pub told_yes : {A : Type 0} → A → Told A true
told_yes a = record { if_true = λ e. a; if_false = λ e b. true≢false e }

-- No, where it does not.
pub told_no : {A : Type 0} → (A → ⊥) → Told A false
told_no n = record { if_true = λ e. absurd (true≢false (sym e)); if_false = λ e a. n a }

-- A test of A is a test of B, where each follows from the other.
pub told_map : {A B : Type 0} {r : Bool} → (A → B) → (B → A) → Told A r → Told B r
told_map f g t = record { if_true = λ e. f (t.if_true e); if_false = λ e b. t.if_false e (g b) }
