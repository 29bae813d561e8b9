-- The rows of a state and their child states.
use mathlib.Core.Path.{◌≡◌, refl}
use mathlib.Core.List.{List, [], ◌∷◌, ◌++◌, map, Memᴰ}
use Prim.Native.Nat.{ℕ, ◌<◌}
use native.Mathlib.Decide.{ℕ_discrete}
use borrow.Author.Tests.{eq-eqb, ne_eqb}
use Rattle.machine.specs.Machine.{Child, Row, Table, Each, Before, Rising, RowFits, WellMade}
use Rattle.machine.specs.Form.{rows_of, child_states}
use Rattle.machine.proofs.Find.{rising_first}
use Rattle.form_laws.proofs.Lists.{All, Ordered, all_map, all_append, all_image}

-- What holds of each child holds of all members of the list.
pub each_all : (P : Child → Type 0) (cs : List Child) → Each (λ c ds. P c) cs → All P cs
each_all P [] h = tt
each_all P (c ∷ cs) h = (h.0, each_all P cs h.1)

-- The rows of a rising list stand before all those behind them.
pub rising_ordered : (rows : List Row) → Rising rows → Ordered Before rows
rising_ordered [] h = tt
rising_ordered (r ∷ rs) h = let k = rising_first r rs h in (k.0, rising_ordered rs k.1)

-- Rows that stand before all those behind them rise.
pub ordered_rising : (rows : List Row) → Ordered Before rows → Rising rows
ordered_rising [] h = tt
ordered_rising (r ∷ []) h = tt
ordered_rising (r ∷ s ∷ rs) h = (h.0.0, ordered_rising (s ∷ rs) h.1)

-- A row of the state comes first among its rows.
pub rows_of_own : (r : Row) (rs : List Row) (q : ℕ) → r.state ≡ q → rows_of (r ∷ rs) q ≡ r ∷ rows_of rs q
unfolding rows_of
rows_of_own r rs q e = rw (eq-eqb r.state q e, rows_of)

-- A row of another state is none of its rows.
pub rows_of_past : (r : Row) (rs : List Row) (q : ℕ) → (r.state ≡ q → ⊥) → rows_of (r ∷ rs) q ≡ rows_of rs q
unfolding rows_of
rows_of_past r rs q n = rw (ne_eqb r.state q n, rows_of)

-- What holds of all rows holds of all rows of a state.
pub rows_of_all : (P : Row → Type 0) (rows : List Row) (q : ℕ) → All P rows → All P (rows_of rows q)
unfolding rows_of
rows_of_all P [] q h = tt
rows_of_all P (r ∷ rs) q h =
    elim (ℕ_discrete r.state q) [
      | yes e ↦ rw (rows_of_own r rs q e) (h.0, rows_of_all P rs q h.1)
      | no n ↦ rw (rows_of_past r rs q n) (rows_of_all P rs q h.1)
    ]

-- The rows of a state are for that state.
pub rows_of_state : (rows : List Row) (q : ℕ) → All (λ r. r.state ≡ q) (rows_of rows q)
unfolding rows_of
rows_of_state [] q = tt
rows_of_state (r ∷ rs) q =
    elim (ℕ_discrete r.state q) [
      | yes e ↦ rw (rows_of_own r rs q e) (e, rows_of_state rs q)
      | no n ↦ rw (rows_of_past r rs q n) (rows_of_state rs q)
    ]

-- A relation of all rows to those behind them is one of the rows of a state.
pub rows_of_ordered : (R : Row → Row → Type 0) (rows : List Row) (q : ℕ) → Ordered R rows → Ordered R (rows_of rows q)
unfolding rows_of
rows_of_ordered R [] q h = tt
rows_of_ordered R (r ∷ rs) q h =
    elim (ℕ_discrete r.state q) [
      | yes e ↦ rw (rows_of_own r rs q e) (rows_of_all (R r) rs q h.0, rows_of_ordered R rs q h.1)
      | no n ↦ rw (rows_of_past r rs q n) (rows_of_ordered R rs q h.1)
    ]

-- P holds of the child states of all rows.
abbrev pub Children : (ℕ → Type 0) → List Row → Type 0
Children P rows = All (λ r. All (λ c. P c.state) r.rule.rest) rows

-- Then it holds of the child states in turn.
child_states_all : (P : ℕ → Type 0) (rows : List Row) → Children P rows → All P (child_states rows)
unfolding child_states
child_states_all P [] h = tt
child_states_all P (r ∷ rs) h =
    all_append P (map (λ c. c.state) r.rule.rest) (child_states rs)
    (all_image P (λ c. c.state) r.rule.rest h.0) (child_states_all P rs h.1)

-- What holds of all child states in turn holds of those of all rows.
pub all_child_states : (P : ℕ → Type 0) (rows : List Row) → All P (child_states rows) → Children P rows
unfolding child_states
all_child_states P [] h = tt
all_child_states P (r ∷ rs) h = let k = go r.rule.rest h in (k.0, all_child_states P rs k.1)
  where
    go : (cs : List Child) → All P (map (λ c. c.state) cs ++ child_states rs) → All (λ c. P c.state) cs × All P (child_states rs)
    go [] k = (tt, k)
    go (c ∷ cs) k = let l = go cs k.1 in ((k.0, l.0), l.1)

-- A child state of a list of rows, with its row and its place there.
pub record ChildOf (rows : List Row) (p : ℕ) : Type 0 where
  pub row : Row
  pub child : Child
  pub has_row : Memᴰ row rows
  pub has_child : Memᴰ child row.rule.rest
  pub is : child.state ≡ p

-- Each of the child states in turn is a child state of a row.
pub child_states_of : (rows : List Row) → All (ChildOf rows) (child_states rows)
child_states_of rows = child_states_all (ChildOf rows) rows (rows_of rows (λ r m. m))
  where
    rest_of : (r : Row) → Memᴰ r rows → (cs : List Child) → ((c : Child) → Memᴰ c cs → Memᴰ c r.rule.rest)
        → All (λ c. ChildOf rows c.state) cs
    rest_of r m [] f = tt
    rest_of r m (c ∷ cs) f = (
      record { row = r; child = c; has_row = m; has_child = f c (Memᴰ.head refl); is = refl },
      rest_of r m cs (λ d i. f d (Memᴰ.tail i)),
    )

    rows_of : (rs : List Row) → ((r : Row) → Memᴰ r rs → Memᴰ r rows) → Children (ChildOf rows) rs
    rows_of [] f = tt
    rows_of (r ∷ rs) f = (rest_of r (f r (Memᴰ.head refl)) r.rule.rest (λ c m. m), rows_of rs (λ s m. f s (Memᴰ.tail m)))

-- The child states of a state of a well-made table are states of the table.
pub kids_inside : (M : Table) → WellMade M → (q : ℕ) → All (λ p. p < M.states) (child_states (rows_of M.rows q))
kids_inside M W q =
    child_states_all Inside (rows_of M.rows q)
    (rows_of_all KidsInside M.rows q (all_map (RowFits M) KidsInside fits M.rows W.rows))
  where
    Inside : ℕ → Type 0
    Inside p = p < M.states

    KidsInside : Row → Type 0
    KidsInside r = All (λ c. Inside c.state) r.rule.rest

    fits : (r : Row) → RowFits M r → KidsInside r
    fits r f = each_all (λ c. c.state < M.states) r.rule.rest f.children
