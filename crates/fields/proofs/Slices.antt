-- Laws of the bytes from one place to another.
use mathlib.Core.Path.{◌≡◌}
use mathlib.Core.List.{List, [], ◌∷◌}
use Prim.Native.Nat.{ℕ, zero, suc, ◌+◌, ◌<◌, ◌≤◌}
use native.Mathlib.Nat.{zero-add}
use native.Mathlib.Numerals.{add-one}
use native.Mathlib.Omega.{arith}
use lib.ListN.{length, get_or, take, drop}
use lib.Seq.{slice, slice_empty, slice-cons, drop-drop, take-take, take-nil, drop-nil}

-- Nothing stands between a place and itself.
pub slice_none : (F : List ℕ) (at end : ℕ) → at ≡ end → slice at end F ≡ []
slice_none F at end e = rw e (slice_empty end F)

-- Before the end stands a byte, and then the bytes from the next place on.
pub slice_byte : (F : List ℕ) (at end b : ℕ) → at < end → end ≤ length F → b ≡ get_or F at 0 → slice at end F ≡ b ∷ slice (at + 1) end F
slice_byte F at end b h k e = rw (e, add-one) (slice-cons at end F 0 h k)

-- The first n of them end n places on.
pub slice_take : (f t n : ℕ) (l : List ℕ) → f + n ≤ t → take n (slice f t l) ≡ slice f (f + n) l
slice_take zero t n l h = rw zero-add (take-take n t l (omega arith))
slice_take (suc f) zero n l h = absurd (omega arith)
slice_take (suc f) (suc t) n [] h = rw (take-nil, take-nil, drop-nil)
slice_take (suc f) (suc t) n (x ∷ l) h =
    let e : suc f + n ≡ suc (f + n) = omega arith in
    rw e (slice_take f t n l (omega arith))

-- Those behind the first n begin n places on.
pub slice_drop : (f t n : ℕ) (l : List ℕ) → drop n (slice f t l) ≡ slice (f + n) t l
slice_drop f t n l = drop-drop n f (take t l)
