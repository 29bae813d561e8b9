-- A room that is filled from its front: R was R₀ and has acc in front of what R₀ had there. Assumes nothing.
use mathlib.Core.Path.{◌≡◌, refl, ◌∙◌}
use mathlib.Core.List.{List, ◌++◌}
use Prim.Native.Nat.{ℕ, ◌+◌}
use native.Mathlib.Nat.{zero-add}
use native.Mathlib.Omega.{arith}
use lib.ListN.{length, take, drop, length-append}
use lib.Seq.{take_at, drop-append-add, drop-drop}

-- A word is written behind what is there.
room_grows : (R₀ acc R w : List ℕ) (e : ℕ) → length acc ≡ e → R ≡ acc ++ drop (length acc) R₀
    → take e R ++ w ++ drop (e + length w) R ≡ (acc ++ w) ++ drop (length (acc ++ w)) R₀
room_grows R₀ acc R w e le r =
    rw (r, ← le, take_at acc (drop (length acc) R₀) (length acc) refl, drop-append-add, drop-drop, length-append)

-- u is put at 0, w behind it, and v behind w: the room has the three in front, and behind them what it had.
pub three_filled : (E R₁ R₂ R₃ u w v : List ℕ) (from : ℕ) → R₁ ≡ take 0 E ++ u ++ drop (0 + length u) E → from ≡ 0 + length u
    → R₂ ≡ take from R₁ ++ w ++ drop (from + length w) R₁ → R₃ ≡ take (from + length w) R₂ ++ v ++ drop (from + length w + length v) R₂
    → R₃ ≡ u ++ w ++ v ++ drop (length (u ++ w ++ v)) E
three_filled E R₁ R₂ R₃ u w v from e₁ f e₂ e₃ =
    let a : length u ≡ from = omega arith in
    let b : length (u ++ w) ≡ from + length w = simp length-append (omega arith) in
    let e : R₁ ≡ u ++ drop (length u) E = rw zero-add at e₁ in
    e₃ ∙ room_grows E (u ++ w) R₂ v (from + length w) b (e₂ ∙ room_grows E u R₁ w from a e)
