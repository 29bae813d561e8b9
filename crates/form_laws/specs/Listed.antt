-- The listed states of a table, the numbers of its states, and its rules by number. Definitions only.
use Rattle.std.specs.Prelude.{◌≡◌, true, List, map, ℕ, zero, ◌<◌, get_or}
use Rattle.machine.specs.Machine.{Child, Rule, Table}
use Rattle.machine.specs.Form.{Test, number_in, order, rows_of, child_states}

-- The test says of each state of the table that it is the same as itself. Nothing more is asked of a test for the visit.
abbrev pub Selfsame : Test → Table → Type 0
Selfsame same M = (q : ℕ) → q < M.states → same q q ≡ true

-- The child states of a state, by rising symbol and from left to right.
abbrev pub kids : Table → ℕ → List ℕ
kids M q = child_states (rows_of M.rows q)

-- The state of the table that is listed at place i: the form's number i stands for it.
abbrev pub listed : Test → Table → ℕ → ℕ
listed same M i = get_or (order same M) i zero

-- The number of a state of the table in the form.
abbrev pub number_of : Test → Table → ℕ → ℕ
number_of same M q = number_in same (order same M) q

-- The rest of a rule with its child states by number.
abbrev pub numbered_rest : (ℕ → ℕ) → List Child → List Child
numbered_rest number cs = map (λ c. record { state = number c.state; after = c.after }) cs

-- A rule with its child states by number.
abbrev pub numbered_rule : (ℕ → ℕ) → Rule → Rule
numbered_rule number r = record { first = r.first; rest = numbered_rest number r.rest }
