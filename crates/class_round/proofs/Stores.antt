-- A store in a list of numbers.
use mathlib.Core.Path.{◌≡◌, sym, subst}
use mathlib.Core.List.{List}
use Prim.Native.Nat.{ℕ, ◌+◌, ◌<◌}
use native.Mathlib.Decide.{ℕ_discrete}
use native.Mathlib.Omega.{arith}
use lib.ListN.{length, get_or, set}
use lib.Seq.{get_or-set_same, get_or-set_other}

-- A number is another one or not.
pub same_or : {P : Type 0} (p q : ℕ) → (p ≡ q → P) → ((p ≡ q → ⊥) → P) → P
same_or p q a b = elim (ℕ_discrete p q) [ yes e ↦ a e | no n ↦ b n ]

-- What holds of the entries below q holds below q + 1 after a store at q of what holds there.
pub set_below : (P : ℕ → ℕ → Type 0) (m : List ℕ) (q v : ℕ) → q < length m → ((p : ℕ) → p < q → P p (get_or m p 0)) → P q v
    → (p : ℕ) → p < q + 1 → P p (get_or (set m q v) p 0)
set_below P m q v h old new p l =
    same_or p q
    (λ e. subst (λ (x : ℕ). P x (get_or (set m q v) x 0)) (sym e) (subst (P q) (sym (get_or-set_same m q v 0 h)) new))
    (λ ne. subst (P p) (sym (get_or-set_other m q p v 0 ne)) (old p (omega arith)))
