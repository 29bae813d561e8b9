-- How the summaries of the states grow. Definitions only.
use Rattle.std.specs.Prelude.{◌≡◌, List, ℕ, ◌+◌, length}
use Rattle.end_laws.specs.Ends.{ranks}
use Rattle.summary.specs.Codes.{summaries}
use Rattle.summary.specs.declared.Summary.{Summary}

-- The summaries xs become ys, and k tells how much more is known of all states together: if it is nothing, the summaries stay.
pub record Grown (xs ys : List Summary) (k : ℕ) : Type 0 where
  pub long : length ys ≡ length xs
  pub counts : ranks (summaries ys) ≡ ranks (summaries xs) + k
  pub stays : k ≡ 0 → summaries ys ≡ summaries xs
