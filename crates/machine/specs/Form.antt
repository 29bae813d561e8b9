-- The form of a table (the specification, "The form"). A test for sameness of states is its argument. Definitions only.
use Rattle.std.specs.Prelude.{◌≡◌, Bool, true, false, List, [], ◌∷◌, ◌++◌, map, ◌↔◌, ℕ, zero, suc, ◌<◌, eqb, ltb, length, get_or}
use Rattle.machine.specs.Machine.{Row, Table}
use Rattle.machine.specs.Same.{Same}

-- A test of two states.
abbrev pub Test : Type 0
Test = ℕ → ℕ → Bool

-- The test says of any two states of the table whether they have the same words on all finite trees.
abbrev pub Decides : Test → Table → Type 0
Decides same M = (q r : ℕ) → q < M.states → r < M.states → (same q r ≡ true) ↔ Same M M q r

-- The rows of a state, by rising symbol as they stand in the table.
unfoldable pub rows_of : List Row → ℕ → List Row
rows_of [] q = []
rows_of (r ∷ rs) q = elim (eqb r.state q) [ true ↦ r ∷ rows_of rs q | false ↦ rows_of rs q ]

-- The child states of a list of rows, from left to right.
unfoldable pub child_states : List Row → List ℕ
child_states [] = []
child_states (r ∷ rs) = map (λ c. c.state) r.rule.rest ++ child_states rs

-- The number of a state: the place in the list of the first state that is the same; the list's length if there is none.
unfoldable pub number_in : Test → List ℕ → ℕ → ℕ
number_in same [] q = zero
number_in same (r ∷ rs) q = elim (same r q) [ true ↦ zero | false ↦ suc (number_in same rs q) ]

-- Each new state gets the next free number: it goes to the end of the list, and a known one does not.
unfoldable pub meet : Test → List ℕ → List ℕ → List ℕ
meet same seen [] = seen
meet same seen (q ∷ qs) = elim (ltb (number_in same seen q) (length seen)) [ true ↦ meet same seen qs | false ↦ meet same (seen ++ q ∷ []) qs ]

-- States are taken in order of their new numbers, from number i on, at most n of them: the rules of each by rising symbol, child states from left to right.
unfoldable pub visit : Test → List Row → ℕ → ℕ → List ℕ → List ℕ
visit same rows zero i seen = seen
visit same rows (suc n) i seen =
    elim (ltb i (length seen)) [ true ↦ visit same rows n (suc i) (meet same seen (child_states (rows_of rows (get_or seen i zero)))) | false ↦ seen ]

-- The states of the form, each by its first-visited state of the table: the initial state is 0.
unfoldable pub order : Test → Table → List ℕ
order same M = visit same M.rows M.states zero (M.start ∷ [])

-- A row as number i has it: its child states by their new numbers, its words as they are.
abbrev pub renumber : (ℕ → ℕ) → ℕ → Row → Row
renumber number i r =
    record {
      state = i;
      symbol = r.symbol;
      rule = record { first = r.rule.first; rest = map (λ c. record { state = number c.state; after = c.after }) r.rule.rest };
    }

-- The rows of the states of a list, numbered from i on.
unfoldable pub renumbered : (ℕ → ℕ) → List Row → ℕ → List ℕ → List Row
renumbered number rows i [] = []
renumbered number rows i (q ∷ qs) = map (renumber number i) (rows_of rows q) ++ renumbered number rows (suc i) qs

-- The form: states that are the same become one. Symbol list and all words stay.
unfoldable pub form_of : Test → Table → Table
form_of same M =
    record {
      arities = M.arities;
      states = length (order same M);
      before = M.before;
      start = zero;
      after = M.after;
      rows = renumbered (number_in same (order same M)) M.rows zero (order same M);
    }

-- F is the form of M: by a test that decides sameness in M.
pub record IsForm (M F : Table) : Type 0 where
  pub same : Test
  pub decides : Decides same M
  pub form : F ≡ form_of same M
