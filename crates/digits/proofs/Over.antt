-- Digits over digits that were written.
use mathlib.Core.Path.{◌≡◌, refl, ap, ◌∙◌}
use mathlib.Core.List.{List, [], ◌∷◌, ◌++◌}
use Prim.Native.Nat.{ℕ, suc, ◌+◌, ◌*◌, ◌<◌}
use native.Mathlib.Omega.{arith}
use lib.ListN.{length, set}
use lib.Seq.{sets, set-set, set_comm}
use Rattle.text.specs.Lines.{hex_of}

-- A store before others' places may come first.
set_first : (vs l : List ℕ) (i j y : ℕ) → i < j → set (sets l j vs) i y ≡ sets (set l i y) j vs
set_first [] l i j y h = refl
set_first (v ∷ vs) l i j y h = set_first vs (set l j v) i (suc j) y (omega arith) ∙ ap (λ (m : List ℕ). sets m (suc j) vs) (set_comm l j i v y (omega arith))

-- Two stores over the first two of a run.
over_two : (vs l : List ℕ) (i u v x y : ℕ) → sets (sets l i (u ∷ v ∷ vs)) i (x ∷ y ∷ []) ≡ sets l i (x ∷ y ∷ vs)
over_two vs l i u v x y =
    ap (λ (m : List ℕ). set m (suc i) y) (set_first vs (set (set l i u) (suc i) v) i (suc (suc i)) x (omega arith))
    ∙ set_first vs (set (set (set l i u) (suc i) v) i x) (suc i) (suc (suc i)) y (omega arith)
    ∙ ap (λ (m : List ℕ). sets (set m (suc i) y) (suc (suc i)) vs)
    (set_comm (set l i u) (suc i) i v x (omega arith) ∙ ap (λ (m : List ℕ). set m (suc i) v) (set-set l i u x))
    ∙ ap (λ (m : List ℕ). sets m (suc (suc i)) vs) (set-set (set l i x) (suc i) v y)

-- A byte's digits are written over another's.
pub hex_over : (ts vs l : List ℕ) (i p x y : ℕ) → p ≡ i + 2 * length ts
    → sets (sets l i (hex_of (ts ++ x ∷ vs))) p (hex_of (y ∷ [])) ≡ sets l i (hex_of (ts ++ y ∷ vs))
unfolding hex_of
hex_over [] vs l i p x y e =
    let d : p ≡ i = omega (arith, e) in
    ap (λ (k : ℕ). sets (sets l i (hex_of (x ∷ vs))) k (hex_of (y ∷ []))) d ∙ over_two (hex_of vs) l i _ _ _ _
hex_over (t ∷ ts) vs l i p x y e = hex_over ts vs (sets l i (hex_of (t ∷ []))) (suc (suc i)) p x y (omega (arith, e))
