-- Bytes that begin with texts: their fronts, compared, tell whether the texts are the same. Assumes nothing.
use mathlib.Core.Path.{◌≡◌, sym, ap, ap₂, ◌∙◌}
use mathlib.Core.Bool.{Bool, true, false, true≢false}
use mathlib.Core.List.{List}
use Prim.Native.Nat.{ℕ}
use lib.Dec.{eqb}
use lib.ListN.{take}
use lib.Pointwise.{pointwise, bytes_decides}
use lib.Seq.{take_at}
use Rattle.words.specs.Told.{Told}
use Rattle.comparison.specs.Parts.{BeginsWith}

-- The front is the text that the bytes begin with.
front_is : {X : List ℕ} {n : ℕ} {x : List ℕ} → BeginsWith X n x → take n X ≡ x
front_is {X} {n} {x} f = ap (take n) f.bytes ∙ take_at x f.behind n (sym f.count)

-- The test of two lists of bytes for equality.
bytes_told : (x y : List ℕ) (r : Bool) → r ≡ pointwise eqb x y → Told (x ≡ y) r
bytes_told x y r e =
    record {
      if_true = λ t. (bytes_decides x y).0 (sym e ∙ t);
      if_false = λ t q. true≢false (sym ((bytes_decides x y).1 q) ∙ sym e ∙ t);
    }

-- The test of two fronts.
pub fronts_told : {X Y : List ℕ} {n m : ℕ} {x y : List ℕ} (r : Bool) → BeginsWith X n x → BeginsWith Y m y → r ≡ pointwise eqb (take n X) (take m Y)
    → Told (x ≡ y) r
fronts_told {x = x} {y = y} r f g e = bytes_told x y r (e ∙ ap₂ (λ (u v : List ℕ). pointwise eqb u v) (front_is f) (front_is g))
