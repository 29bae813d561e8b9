-- A copy to the front.
use mathlib.Core.Path.{◌≡◌, ap, ◌∙◌}
use mathlib.Core.List.{List, ◌++◌}
use Prim.Native.Nat.{ℕ, ◌≤◌}
use native.Mathlib.Omega.{arith}
use lib.ListN.{length, take, drop, length-append, length-drop}
use lib.Seq.{length-take-le}

-- There are as many bytes as before.
pub copy_long : (s d e : List ℕ) (n : ℕ) → n ≤ length s → n ≤ length d → e ≡ take n s ++ drop n d → length e ≡ length d
copy_long s d e n h k q = ap length q ∙ simp (length-append, length-drop) (omega (arith, length-take-le n s h))
