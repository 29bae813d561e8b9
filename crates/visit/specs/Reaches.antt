-- What is promised of the states that are reached. Definitions only.
use Rattle.std.specs.Prelude.{◌≡◌, List, ℕ, ◌<◌, get_or}
use Rattle.machine.specs.Machine.{Table}
use Rattle.machine.specs.Earliest.{Reached}

-- Each of the first n states is its own class.
abbrev pub Own : List ℕ → ℕ → Type 0
Own rep n = (q : ℕ) → q < n → get_or rep q 0 ≡ q

-- State q has a mark: an entry that is not 0.
abbrev pub Marked : List ℕ → ℕ → Type 0
Marked m q = get_or m q 0 ≡ 0 → ⊥

-- The marks m are at the states that are reached, and the first n of O are these states, each once.
pub record Reaches (M : Table) (m O : List ℕ) (n : ℕ) : Type 0 where
  pub marked : (q : ℕ) → Marked m q → Reached M q
  pub reached : (q : ℕ) → Reached M q → Marked m q
  pub listed : (q : ℕ) → Marked m q → (i : ℕ) × (i < n) × (get_or O i 0 ≡ q)
  pub entries : (i : ℕ) → i < n → Reached M (get_or O i 0)
  pub once : (i j : ℕ) → i < j → j < n → get_or O i 0 ≡ get_or O j 0 → ⊥
