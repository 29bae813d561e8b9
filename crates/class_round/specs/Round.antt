-- What a round does, and what its parts answer. Definitions only.
use Rattle.std.specs.Prelude.{◌≡◌, Bool, true, false, List, ℕ, ◌<◌, ◌≤◌, get_or}
use Rattle.machine.specs.Machine.{Table}
use Rattle.machine.specs.Twins.{Match}
use Rattle.same_words.specs.Words.{Any}

-- rep puts a and b into one class.
abbrev pub OneClass : List ℕ → ℕ → ℕ → Type 0
OneClass rep a b = get_or rep a 0 ≡ get_or rep b 0

-- The rows of q and r match up to their children's states: the same rules are there, with the same words in turn and as many children.
abbrev pub SameShape : Table → ℕ → ℕ → Type 0
SameShape M q r = Match M M Any q r

-- So do those of states in one class, of the first n: what the first round leaves, and every round keeps.
abbrev pub Shapes : Table → ℕ → List ℕ → Type 0
Shapes M n rep = (q r : ℕ) → q < n → r < n → OneClass rep q r → SameShape M q r

-- What holds of the classes where a round begins: before the first all states are in one; later, states of one have rows that match up to their children.
pub record RoundBegun (first : Bool) (M : Table) (n : ℕ) (rep : List ℕ) : Type 0 where
  pub one : first ≡ true → (q r : ℕ) → OneClass rep q r
  pub shapes : first ≡ false → Shapes M n rep

-- A round leaves q and r in one class: they are in one, and their rows match up to the classes.
pub record Paired (M : Table) (rep : List ℕ) (q r : ℕ) : Type 0 where
  pub alike : OneClass rep q r
  pub rows : Match M M (OneClass rep) q r

-- State r stands for its class in the new round, and the round leaves q with it.
pub record Leads (M : Table) (rep next : List ℕ) (q r : ℕ) : Type 0 where
  pub own : get_or next r 0 ≡ r
  pub pair : Paired M rep q r

-- r is q, or the first before q that leads it.
pub record Picked (M : Table) (rep next : List ℕ) (q r : ℕ) : Type 0 where
  pub pair : Paired M rep q r
  pub first : (p : ℕ) → p < r → Leads M rep next q p → ⊥

-- x is the least that P holds of.
pub record LeastOf (P : ℕ → Type 0) (x : ℕ) : Type 0 where
  pub holds : P x
  pub least : (r : ℕ) → P r → x ≤ r

-- No number is above its state.
abbrev pub Low : List ℕ → Type 0
Low rep = (q : ℕ) → get_or rep q 0 ≤ q

-- Of the first n states no number of next is above its state or below its number in rep.
abbrev pub NumbersRaised : ℕ → List ℕ → List ℕ → Type 0
NumbersRaised n rep next = (q : ℕ) → q < n → (get_or rep q 0 ≤ get_or next q 0) × (get_or next q 0 ≤ q)

-- What the round leaves in next: for each of the first n states the least that it leaves in the state's class.
abbrev pub Rounded : Table → ℕ → List ℕ → List ℕ → Type 0
Rounded M n rep next = (q : ℕ) → q < n → LeastOf (Paired M rep q) (get_or next q 0)
