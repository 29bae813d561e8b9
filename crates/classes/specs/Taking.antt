-- How a round's numbers are taken over: none falls, and what changes is counted. Definitions only.
use Rattle.std.specs.Prelude.{◌≡◌, List, [], ◌∷◌, ℕ, ◌+◌, ◌-◌, ◌<◌, ◌≤◌, length, get_or}
use Rattle.text.specs.Limits.{states_most}

-- How far the numbers are below the most states, all told.
unfoldable pub slack : List ℕ → ℕ
slack [] = 0
slack (x ∷ m) = states_most - x + slack m

-- A store of v at q, which changed k entries: 0 or 1.
pub record ClassPut (m : List ℕ) (q v : ℕ) (m' : List ℕ) (k : ℕ) : Type 0 where
  pub long : length m' ≡ length m
  pub here : get_or m' q 0 ≡ v
  pub elsewhere : (p : ℕ) → (p ≡ q → ⊥) → get_or m' p 0 ≡ get_or m p 0
  pub fewer : slack m' + k ≤ slack m
  pub still : k ≡ 0 → m' ≡ m

-- The first n entries of next taken over, which changed k entries.
pub record Adopted (n : ℕ) (next m m' : List ℕ) (k : ℕ) : Type 0 where
  pub long : length m' ≡ length m
  pub taken : (q : ℕ) → q < n → get_or m' q 0 ≡ get_or next q 0
  pub rest : (q : ℕ) → n ≤ q → get_or m' q 0 ≡ get_or m q 0
  pub fewer : slack m' + k ≤ slack m
  pub still : k ≡ 0 → m' ≡ m
