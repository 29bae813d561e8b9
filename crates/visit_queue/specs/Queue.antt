-- The states that were met, each class of states once, as a queue. Definitions only.
use Rattle.std.specs.Prelude.{◌≡◌, true, false, List, map, ℕ, suc, ◌≤◌, eqb, ltb, length, get_or, take}
use Rattle.machine.specs.Machine.{Child}
use Rattle.machine.specs.Form.{Test, number_in, meet}
use Rattle.text.specs.Limits.{states_most}
use Rattle.visit_queue.specs.declared.queue.Queue.{Queue}

-- Classes of states, a byte each: two states are one if they have one class.
abbrev pub by_rep : List ℕ → Test
by_rep rep q r = eqb (get_or rep q 0) (get_or rep r 0)

-- What is kept of a class in a list of states: one more than the number of its states, 0 if it has none there.
abbrev pub mark : Test → List ℕ → ℕ → ℕ
mark same seen q = elim (ltb (number_in same seen q) (length seen)) [ true ↦ suc (number_in same seen q) | false ↦ 0 ]

-- The first n entries of O are the list, and K has the mark of each class.
pub record Listing (rep seen O K : List ℕ) (n : ℕ) : Type 0 where
  pub count : n ≡ length seen
  pub listed : take n O ≡ seen
  pub marks : (q : ℕ) → get_or K (get_or rep q 0) 0 ≡ mark (by_rep rep) seen q

-- The queue holds the list of states.
abbrev pub QueueHolds : (rep seen : List ℕ) → Queue → Type 0
QueueHolds rep seen a = Listing rep seen a.order a.known a.count

-- No state was met, and no class is marked.
pub record NoneMet (a : Queue) : Type 0 where
  pub none : a.count ≡ 0
  pub unmarked : (i : ℕ) → get_or a.known i 0 ≡ 0

-- The states qs were met: whatever list the queue a held, b holds it with the new ones, if these are not too many.
pub record StatesMet (rep qs : List ℕ) (a b : Queue) : Type 0 where
  pub queued : (seen : List ℕ) → QueueHolds rep seen a → length (meet (by_rep rep) seen qs) ≤ states_most → QueueHolds rep (meet (by_rep rep) seen qs) b

-- The states of children, from left to right.
abbrev pub states_of : List Child → List ℕ
states_of cs = map (λ c. c.state) cs
