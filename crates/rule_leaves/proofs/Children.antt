-- Children compared by their states: each child of one rule with the child of the same number of the other.
use mathlib.Core.Path.{◌≡◌, sym, subst}
use mathlib.Core.Logic.{◌⊎◌, inl, inr}
use mathlib.Core.List.{List, [], ◌∷◌}
use Prim.Native.Nat.{ℕ, zero, suc, ◌+◌, ◌<◌}
use native.Mathlib.Omega.{arith}
use Rattle.std.proofs.Math.Nat.{eq-or-lt_of_le}
use lib.ListN.{length}
use Rattle.machine.specs.Machine.{Child}
use Rattle.layout.specs.Leaves.{state_no}
use Rattle.layout.specs.Kids.{Kids}

-- What holds below k and of k holds below k + 1.
pub one_more : (P : ℕ → Type 0) (k : ℕ) → ((n : ℕ) → n < k → P n) → P k → (n : ℕ) → n < k + 1 → P n
one_more P k h e n l = go (eq-or-lt_of_le {n = n} {m = k} (omega arith))
  where
    go : (n ≡ k) ⊎ (n < k) → P n
    go (inl q) = subst P (sym q) e
    go (inr m) = h n m

module _ (R : ℕ → ℕ → Type 0) where
  -- Children of one number are related where all are.
  pub kid_at : (cs ds : List Child) → Kids R cs ds → (n : ℕ) → n < length cs → R (state_no cs n) (state_no ds n)
  unfolding state_no
  kid_at [] [] k n l = absurd (omega arith)
  kid_at [] (d ∷ ds) k n l = absurd k
  kid_at (c ∷ cs) [] k n l = absurd k
  kid_at (c ∷ cs) (d ∷ ds) k zero l = k.0
  kid_at (c ∷ cs) (d ∷ ds) k (suc n) l = kid_at cs ds k.1 n (omega arith)

  -- As many children are related where those of each number are.
  pub kids_of : (cs ds : List Child) → length cs ≡ length ds → ((n : ℕ) → n < length cs → R (state_no cs n) (state_no ds n)) → Kids R cs ds
  unfolding state_no
  kids_of [] [] e h = tt
  kids_of [] (d ∷ ds) e h = absurd (omega arith)
  kids_of (c ∷ cs) [] e h = absurd (omega arith)
  kids_of (c ∷ cs) (d ∷ ds) e h = (h zero (omega arith), kids_of cs ds (omega arith) (λ n l. h (suc n) (omega arith)))
