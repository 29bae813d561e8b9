-- Two symbol lists compared from the first symbol on. Definitions only.
use Rattle.std.specs.Prelude.{◌≡◌, List, ℕ, ◌<◌, ◌≤◌, get_or, Some, None}
use Rattle.std.specs.Prelude as answer
use Rattle.std.proofs.Math.Option.{Option, none, some}

-- The first index where two symbol lists part, or none: the code's answer as the promises have it.
abbrev pub parting_of : answer.Option ℕ → Option ℕ
parting_of (Some i) = some i
parting_of None = none

-- Of the first n entries the first i are the same in both lists, and the next, if i is below n, is not.
pub record AlikeFor (xs ys : List ℕ) (n i : ℕ) : Type 0 where
  pub most : i ≤ n
  pub same : (j : ℕ) → j < i → get_or xs j 0 ≡ get_or ys j 0
  pub apart : i < n → get_or xs i 0 ≡ get_or ys i 0 → ⊥
