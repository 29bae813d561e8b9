-- The visit goes on until all listed states have been taken, however much it is allowed beyond the number of states.
use mathlib.Core.Path.{◌≡◌, refl, sym, ◌∙◌, subst}
use mathlib.Core.Bool.{true, false, true≢false}
use mathlib.Core.List.{List, [], ◌∷◌}
use Prim.Native.Nat.{ℕ, zero, suc, ◌+◌, ◌<◌, ◌≤◌}
use native.Mathlib.Decide.{dec_lt}
use native.Mathlib.Omega.{arith}
use lib.ListN.{length, get_or}
use borrow.Author.Tests.{lt-ltb, le-ltb}
use Rattle.machine.specs.Machine.{Row, Table, WellMade}
use Rattle.machine.specs.Same.{Same}
use Rattle.machine.specs.Form.{Test, Decides, rows_of, child_states, meet, visit, order}
use Rattle.form_laws.specs.Listed.{Selfsame, kids, listed, number_of}
use Rattle.form_laws.proofs.Lists.{All, all_at, ordered_at}
use Rattle.form_laws.proofs.Number.{Known, number_same, number_at}
use Rattle.form_laws.proofs.Visit.{Visited, visited_length, visited_start, visited_step, same_self}

-- All listed states have been taken.
abbrev pub AllTaken : Test → Table → List ℕ → Type 0
AllTaken same M seen = Visited same M (length seen) seen

-- A state of the table that the order knows.
abbrev pub InOrder : Test → Table → ℕ → Type 0
InOrder same M q = (q < M.states) × Known same (order same M) q

-- The order knows the child states of a row.
abbrev pub ChildrenInOrder : Test → Table → Row → Type 0
ChildrenInOrder same M r = All (λ c. InOrder same M c.state) r.rule.rest

module _ (same : Test) (rows : List Row) where
  -- A step of the visit: the state at place i is taken.
  pub visit_next : (n i : ℕ) (seen : List ℕ) → i < length seen
      → visit same rows (suc n) i seen ≡ visit same rows n (suc i) (meet same seen (child_states (rows_of rows (get_or seen i zero))))
  unfolding visit
  visit_next n i seen l = rw (lt-ltb i (length seen) l, visit)

  -- The visit ends where all listed states have been taken.
  pub visit_done : (n i : ℕ) (seen : List ℕ) → length seen ≤ i → visit same rows n i seen ≡ seen
  unfolding visit
  visit_done zero i seen l = refl
  visit_done (suc n) i seen l = rw (le-ltb i (length seen) l, visit)

module _ (same : Test) (M : Table) (W : WellMade M) (S : Selfsame same M) where
  -- With as many places taken as there are states, all have been taken.
  visited_full : (i : ℕ) (seen : List ℕ) → length seen ≤ i → Visited same M i seen → AllTaken same M seen
  visited_full i seen h v = let e : length seen ≡ i = omega (arith, v.within) in subst (λ (k : ℕ). Visited same M k seen) (sym e) v

  -- The visit takes all that it lists, if it may take as many as the table has states.
  visit_listed : (n i : ℕ) (seen : List ℕ) → M.states ≤ i + n → Visited same M i seen → AllTaken same M (visit same M.rows n i seen)
  unfolding visit
  visit_listed zero i seen h v = visited_full i seen (omega (arith, visited_length same M W S i seen v)) v
  visit_listed (suc n) i seen h v =
      elim (dec_lt i (length seen)) [
        | yes l ↦
            rw (visit_next same M.rows n i seen l)
            (visit_listed n (suc i) (meet same seen (kids M (get_or seen i zero))) (omega arith) (visited_step same M W S i seen l v))
        | no l ↦ rw (visit_done same M.rows (suc n) i seen (omega arith)) (visited_full i seen (omega arith) v)
      ]

  -- More steps than enough change nothing.
  visit_enough : (n m i : ℕ) (seen : List ℕ) → M.states ≤ i + n → M.states ≤ i + m → Visited same M i seen
      → visit same M.rows n i seen ≡ visit same M.rows m i seen
  visit_enough zero m i seen h k v =
      let l : length seen ≤ i = omega (arith, visited_length same M W S i seen v) in
      visit_done same M.rows zero i seen l ∙ sym (visit_done same M.rows m i seen l)
  visit_enough (suc n) zero i seen h k v =
      let l : length seen ≤ i = omega (arith, visited_length same M W S i seen v) in
      visit_done same M.rows (suc n) i seen l ∙ sym (visit_done same M.rows zero i seen l)
  visit_enough (suc n) (suc m) i seen h k v =
      elim (dec_lt i (length seen)) [
        | yes l ↦
            visit_next same M.rows n i seen l ∙
            visit_enough n m (suc i) (meet same seen (kids M (get_or seen i zero))) (omega arith) (omega arith) (visited_step same M W S i seen l v) ∙
            sym (visit_next same M.rows m i seen l)
        | no l ↦ visit_done same M.rows (suc n) i seen (omega arith) ∙ sym (visit_done same M.rows (suc m) i seen (omega arith))
      ]

  -- The order of the table's states lists and takes all.
  pub order_listed : AllTaken same M (order same M)
  unfolding order
  order_listed = visit_listed M.states zero (M.start ∷ []) (omega arith) (visited_start same M W S)

  -- The order is the visit with any number of steps from the table's states on.
  pub order_enough : (n : ℕ) → M.states ≤ n → order same M ≡ visit same M.rows n zero (M.start ∷ [])
  unfolding order
  order_enough n h = visit_enough M.states n zero (M.start ∷ []) (omega arith) (omega arith) (visited_start same M W S)

  -- At most as many states are listed as the table has.
  pub order_length : length (order same M) ≤ M.states
  order_length = visited_length same M W S (length (order same M)) (order same M) order_listed

  -- Listed states are states of the table.
  pub listed_inside : (i : ℕ) → i < length (order same M) → listed same M i < M.states
  listed_inside i l = all_at (λ q. q < M.states) (order same M) order_listed.inside i zero l

  -- The number of a listed state is its place.
  pub order_number : (i : ℕ) → i < length (order same M) → number_of same M (listed same M i) ≡ i
  order_number i l = number_at same (order same M) order_listed.apart i l (S (listed same M i) (listed_inside i l))

module _ (same : Test) (M : Table) (W : WellMade M) (D : Decides same M) where
  -- No two listed states have the same words on all trees.
  pub listed_apart : (i j : ℕ) → i < j → j < length (order same M) → Same M M (listed same M i) (listed same M j) → ⊥
  listed_apart i j k l e =
      let S : Selfsame same M = same_self same M D in
      let h : same (listed same M i) (listed same M j) ≡ true = (D _ _ (listed_inside same M W S i (omega arith)) (listed_inside same M W S j l)).1 e in
      true≢false (sym h ∙ ordered_at (λ q r. same q r ≡ false) (order same M) (order_listed same M W S).apart i j zero k l)

  -- The state listed at the number of a known state has its words.
  pub order_same : (q : ℕ) → q < M.states → Known same (order same M) q → Same M M (listed same M (number_of same M q)) q
  order_same q l k =
      (D (listed same M (number_of same M q)) q (listed_inside same M W (same_self same M D) (number_of same M q) k) l).0 (number_same same (order same M) q k)
