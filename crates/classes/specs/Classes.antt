-- Classes of a table's states: rep gives each state the number of its class. Definitions only.
use Rattle.std.specs.Prelude.{◌≡◌, ◌↔◌, List, ℕ, ◌<◌, ◌≤◌, length, get_or}
use Rattle.machine.specs.Machine.{Table}
use Rattle.machine.specs.Same.{Same}
use Rattle.machine.specs.Twins.{Twin}
use Rattle.text.specs.Limits.{states_most}

-- States that every number of rounds of comparing rules finds alike: the same rules are there, with the same words in turn, and so on below.
abbrev pub Twins : Table → ℕ → ℕ → Type 0
Twins M q r = (k : ℕ) → Twin M M k q r

-- States have one number exactly when they are twins; and a class's number is a state of the class, the least. Nothing is asked of the table.
pub record TwinClasses (M : Table) (rep : List ℕ) : Type 0 where
  pub twins : (q r : ℕ) → q < M.states → r < M.states → (get_or rep q 0 ≡ get_or rep r 0) ↔ Twins M q r
  pub member : (q : ℕ) → q < M.states → Twins M q (get_or rep q 0)
  pub least : (q r : ℕ) → q < M.states → r < M.states → Twins M q r → get_or rep q 0 ≤ r

-- States have one number exactly when they have the same words on all finite trees; and a class's number is a state of the class.
pub record Classes (M : Table) (rep : List ℕ) : Type 0 where
  pub same : (q r : ℕ) → q < M.states → r < M.states → (get_or rep q 0 ≡ get_or rep r 0) ↔ Same M M q r
  pub member : (q : ℕ) → q < M.states → Same M M q (get_or rep q 0)

-- Whatever the bytes are: a number for each state that a table may have, each at most the state, so below the most states.
pub record ClassNumbers (rep : List ℕ) : Type 0 where
  pub long : length rep ≡ states_most
  pub low : (q : ℕ) → get_or rep q 0 ≤ q
  pub below : (q : ℕ) → get_or rep q 0 < states_most
