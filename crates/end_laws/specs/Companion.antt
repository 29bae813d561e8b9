-- The judgement as a function that computes: sweeps over the rules until nothing changes, then the first condition that fails.
-- Definitions only.
use Rattle.std.specs.Prelude.{Bool, true, false, not, List, [], ◌∷◌, ℕ, zero, suc, ◌*◌, eqb, length, get_or, set, replicate}
use Rattle.std.proofs.Math.Option.{Option, none, some}
use Rattle.std.proofs.Math.ListN.{get_elem?}
use Rattle.machine.specs.Machine.{Child, Row, Table}
use Rattle.machine.specs.Verdict.{Verdict, earliest, late}
use Rattle.end_laws.specs.Ends.{Side, left, right, Ends, unknown, join, lives, clean, stuck, free, value, at, ranks}

-- A step is taken again and again, at most n times, until a measure stays.
unfoldable pub settle : {A : Type 0} → (A → ℕ) → (A → A) → ℕ → A → A
settle m f zero a = a
settle m f (suc n) a = elim (eqb (m (f a)) (m a)) [ true ↦ a | false ↦ settle m f n (f a) ]

-- ---- the states' summaries
-- A row's summary is joined into its state's.
unfoldable pub visit : Side → Row → List Ends → List Ends
visit side row vs = set vs row.state (join (at vs row.state) (value side (at vs) row.rule))

-- All rows in turn.
unfoldable pub sweep : Side → List Row → List Ends → List Ends
sweep side [] vs = vs
sweep side (row ∷ rows) vs = sweep side rows (visit side row vs)

-- As many sweeps as can change something: each state's summary can rise three times.
abbrev pub enough : Table → ℕ
enough M = 3 * M.states

-- What is known of the states in the end.
unfoldable pub known : Table → Side → List Ends
known M side = settle ranks (sweep side M.rows) (enough M) (replicate M.states unknown)

-- ---- the states that are reached
-- The state is marked.
abbrev pub on : List Bool → ℕ → Bool
on ms q = get_or ms q false

-- How many states are marked.
unfoldable pub marked : List Bool → ℕ
marked [] = 0
marked (true ∷ ms) = suc (marked ms)
marked (false ∷ ms) = marked ms

-- The states of the rest of a rule are marked.
unfoldable pub mark_all : List Child → List Bool → List Bool
mark_all [] ms = ms
mark_all (c ∷ cs) ms = mark_all cs (set ms c.state true)

-- The states of a row's rule are marked, if its state is.
unfoldable pub follow : Row → List Bool → List Bool
follow row ms = elim (on ms row.state) [ true ↦ mark_all row.rule.rest ms | false ↦ ms ]

-- All rows in turn.
unfoldable pub spread : List Row → List Bool → List Bool
spread [] ms = ms
spread (row ∷ rows) ms = spread rows (follow row ms)

-- The states that are reached from the initial one.
unfoldable pub reached : Table → List Bool
reached M = settle marked (spread M.rows) M.states (set (replicate M.states false) M.start true)

-- ---- the verdict
-- A condition as a test of each place, with its number.
pub record Check : Type 0 where
  pub number : ℕ
  pub places : ℕ
  pub passes : ℕ → Bool

-- The least of n places from i on that does not pass, or none.
unfoldable pub least : (ℕ → Bool) → ℕ → ℕ → Option ℕ
least test zero i = none
least test (suc n) i = elim (test i) [ true ↦ least test n (suc i) | false ↦ some i ]

-- The first check that some place does not pass gives its number, with the least place; if all pass, earliest.
unfoldable pub judge_by : List Check → Verdict
judge_by [] = earliest
judge_by (c ∷ cs) = elim (least c.passes c.places 0) [ none ↦ judge_by cs | some p ↦ late c.number p ]

-- No word of the row can be pushed to the left of the state before it.
abbrev pub free_row : (ℕ → Ends) → Option Row → Bool
free_row K none = true
free_row K (some row) = free K row.rule.rest

-- The checks in number order, by the states that are reached and what is known at the left and at the right.
abbrev pub checks : Table → List Bool → List Ends → List Ends → List Check
checks M ms ls rs =
    record { number = 13; places = M.states; passes = on ms } ∷
    record { number = 14; places = M.states; passes = λ q. lives (at ls q) } ∷
    record { number = 15; places = M.states; passes = λ q. clean (at ls q) } ∷
    record { number = 16; places = M.states; passes = λ q. clean (at rs q) } ∷
    record { number = 17; places = 1; passes = λ p. not (stuck (at ls M.start) M.after) } ∷
    record { number = 18; places = length M.rows; passes = λ i. free_row (at ls) (get_elem? M.rows i) } ∷
    []

-- The verdict of a table.
unfoldable pub judge : Table → Verdict
judge M = judge_by (checks M (reached M) (known M left) (known M right))
