-- The first-visit numbers of an opened table's states, in lent bytes. Definitions only.
use Rattle.std.specs.Prelude.{◌≡◌, List, ℕ, ◌<◌, length, get_or, take}
use Rattle.machine.specs.Machine.{Table}
use Rattle.machine.specs.Form.{Test, number_in, order}
use Rattle.text.specs.Limits.{states_most}
use Rattle.layout.specs.Layout.{MeantBy}
use Rattle.visit_queue.specs.Queue.{by_rep}

-- The first n entries of O are the states of M by first visit, and N has the number of each state that has one.
pub record NumberedByVisit (same : Test) (M : Table) (O N : List ℕ) (n : ℕ) : Type 0 where
  pub count : n ≡ length (order same M)
  pub listed : take n O ≡ order same M
  pub numbers : (q : ℕ) → q < states_most → number_in same (order same M) q < length (order same M) → get_or N q 0 ≡ number_in same (order same M) q

-- The states are numbered by first visit, whatever their classes are.
abbrev pub StatesNumbered : (I rep O N : List ℕ) (n : ℕ) → Type 0
StatesNumbered I rep O N n = MeantBy I (λ M. NumberedByVisit (by_rep rep) M O N n)
