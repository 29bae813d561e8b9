-- Sums of counts. Assumes nothing.
use mathlib.Core.Path.{◌≡◌}
use mathlib.Core.List.{List, [], ◌∷◌, ◌++◌}
use Prim.Native.Nat.{ℕ, ◌+◌, ◌<◌, ◌≤◌}
use native.Mathlib.Numerals.{add-one}
use native.Mathlib.Omega.{arith}
use lib.ListN.{length, take, get_or}
use lib.Seq.{take-suc, take_all}
use Rattle.line_counts.specs.Counts.{capped, sum}

-- One count more at the end.
sum_snoc : (ks : List ℕ) (k : ℕ) → sum (ks ++ k ∷ []) ≡ sum ks + k
unfolding sum
sum_snoc [] k = omega arith
sum_snoc (m ∷ ks) k = omega (arith, sum_snoc ks k)

-- The sum up to the next count.
pub sum_next : (ks : List ℕ) (i a r : ℕ) → a ≡ capped (sum (take i ks)) → r ≡ capped (a + get_or ks i 0) → i < length ks
    → r ≡ capped (sum (take (i + 1) ks))
sum_next ks i a r ea er h = rw (add-one, take-suc ks i 0, sum_snoc) (omega arith)

-- All counts, where none is left.
pub sum_all : (ks : List ℕ) (i a : ℕ) → a ≡ capped (sum (take i ks)) → length ks ≤ i → a ≡ capped (sum ks)
sum_all ks i a e h = rw (take_all i ks) at e
