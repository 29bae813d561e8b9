-- The numbers that wait while a tree is measured. A waiting number is a state, and the most states that there may be for each symbol above it.
-- Definitions only.
use Rattle.std.specs.Prelude.{◌≡◌, List, [], ◌∷◌, ℕ, zero, suc, ◌+◌, ◌-◌, ◌*◌, ◌/◌, ◌<◌, ◌≤◌, length, get_or, set}
use Rattle.machine.specs.Machine.{Child, Rule}
use Rattle.text.specs.Limits.{symbols_most, states_most}
use Rattle.trees.specs.Shape.{depth_most}
use Rattle.layout.specs.Leaves.{Encodes, state_no}

-- The waiting numbers of a rule's children with e symbols above them.
abbrev pub kids : ℕ → List Child → List ℕ
kids e [] = []
kids e (c ∷ cs) = (states_most * e + c.state) ∷ kids e cs

-- The numbers at places n, n - 1, .. and 1.
abbrev pub under : List ℕ → ℕ → List ℕ
under W zero = []
under W (suc n) = get_or W (suc n) 0 ∷ under W n

-- What waits where the stack has `top` places: none if it has none left.
abbrev pub waits : List ℕ → ℕ → ℕ → List ℕ
waits W zero next = []
waits W (suc n) next = next ∷ under W n

-- The number a is a level and the state of the child with n others behind it, if that is not the first, of the rule that x tells.
pub record Later (x level n a : ℕ) : Type 0 where
  pub state : ℕ
  pub is : a ≡ level + state
  pub of : (i : ℕ) (r : Rule) (j : ℕ) → Encodes x i r → suc (suc j) + n ≡ length r.rest → state ≡ state_no r.rest (suc j)

-- From the stack W the stack W' is made by storing, from place `top` on, the numbers of the last three children behind the first of the rule that x tells.
pub record ChildrenPushed (x level top : ℕ) (W W' : List ℕ) : Type 0 where
  pub last : ℕ
  pub second : ℕ
  pub third : ℕ
  pub last_is : Later x level 0 last
  pub second_is : Later x level 1 second
  pub third_is : Later x level 2 third
  pub long : length W' ≡ length W
  pub stored : W' ≡ set (set (set W top last) (top + 1) second) (top + 2) third

-- The number that comes next behind a rule with k children: what waits below it if there are none, else the first child's.
pub record NextIs (k below first next : ℕ) : Type 0 where
  pub none : k ≡ 0 → next ≡ below
  pub some : 0 < k → next ≡ first

-- The number n is what g says of the rule that x tells.
abbrev pub ToldBy : ℕ → ℕ → (Rule → ℕ) → Type 0
ToldBy x n g = (i : ℕ) (r : Rule) → Encodes x i r → n ≡ g r

-- A turn with the rule that x tells, from the number v on: its children are pushed on the stack W, which is then W', and the number that comes next.
pub record TurnMade (x v top : ℕ) (W W' : List ℕ) (next : ℕ) : Type 0 where
  pub level : ℕ
  pub level_is : level ≡ states_most * suc (v / states_most)
  pub state : ℕ
  pub first : ToldBy x state (λ r. state_no r.rest 0)
  pub later : ChildrenPushed x level top W W'
  pub kids : ℕ
  pub many : ToldBy x kids (λ r. length r.rest)
  pub comes : NextIs kids (get_or W (top - 1) 0) (level + state) next

-- A turn meets a symbol f and a waiting number that tables may have, with at most 63 symbols above it; the stack of `top` places has one to give, and
-- room for three.
pub record Usual (f next top : ℕ) : Type 0 where
  pub symbol : f < symbols_most
  pub levels : next < states_most * depth_most
  pub waits : 0 < top
  pub room : top ≤ 200
