-- The states that the visit lists are reached; where the test tells all states apart, these are all that are reached.
use mathlib.Core.Path.{◌≡◌, refl, sym, subst}
use mathlib.Core.Bool.{true}
use mathlib.Core.List.{List, [], ◌∷◌, Memᴰ}
use mathlib.Core.Logic.{⊎_elim}
use mathlib.Core.Option.{some}
use Prim.Native.Nat.{ℕ, zero, suc, ◌<◌}
use native.Mathlib.Omega.{arith}
use lib.ListN.{length, get_elem?}
use Rattle.machine.specs.Machine.{Child, Rule, Row, Table, WellMade, Rising, find}
use Rattle.machine.specs.Earliest.{Reached, initial, below}
use Rattle.machine.specs.Form.{Test, order, rows_of}
use Rattle.machine.proofs.Find.{find_row}
use Rattle.form_laws.specs.Listed.{Selfsame, kids, listed, number_of}
use Rattle.form_laws.proofs.Lists.{All, all_map, all_both, all_mem}
use Rattle.form_laws.proofs.Number.{Known, known_at, number_same}
use Rattle.form_laws.proofs.Rows.{rows_of_all, rows_of_state, ChildOf, child_states_of, kids_inside}
use Rattle.form_laws.proofs.Order.{InOrder, order_listed, listed_inside}
use Rattle.form_laws.proofs.Renumber.{find_children}

-- What holds of the row at every index holds of all rows.
pub at_all : (P : Row → Type 0) (rows : List Row) → ((i : ℕ) (r : Row) → get_elem? rows i ≡ some r → P r) → All P rows
at_all P [] h = tt
at_all P (r ∷ rs) h = (h zero r refl, at_all P rs (λ i s e. h (suc i) s e))

-- The rule of each row of a state is found for the state and the row's symbol.
rows_of_found : (rows : List Row) → Rising rows → (q : ℕ) → All (λ r. find rows q r.symbol ≡ some r.rule) (rows_of rows q)
rows_of_found rows h q =
    all_map (λ r. (r.state ≡ q) × Found r) (λ r. find rows q r.symbol ≡ some r.rule)
    (λ r k. subst (λ (p : ℕ). find rows p r.symbol ≡ some r.rule) k.0 k.1) (rows_of rows q)
    (all_both (λ r. r.state ≡ q) Found (rows_of rows q) (rows_of_state rows q) (rows_of_all Found rows q (at_all Found rows (find_row rows h))))
  where
    Found : Row → Type 0
    Found r = find rows r.state r.symbol ≡ some r.rule

-- State p is that of a child of a rule of state q.
pub record KidOf (M : Table) (q p : ℕ) : Type 0 where
  pub symbol : ℕ
  pub rule : Rule
  pub found : find M.rows q symbol ≡ some rule
  pub child : Child
  pub among : Memᴰ child rule.rest
  pub is : child.state ≡ p

-- Each child state of a state is.
pub kid_of : (M : Table) → WellMade M → (q p : ℕ) → Memᴰ p (kids M q) → KidOf M q p
kid_of M W q p m =
    let rows : List Row = rows_of M.rows q in
    let k : ChildOf rows p = all_mem (ChildOf rows) (kids M q) (child_states_of rows) m in
    record {
      symbol = k.row.symbol;
      rule = k.row.rule;
      found = all_mem (λ r. find M.rows q r.symbol ≡ some r.rule) rows (rows_of_found M.rows W.rising q) k.has_row;
      child = k.child;
      among = k.has_child;
      is = k.is;
    }

-- It is reached where that state is.
kid_reached : (M : Table) → WellMade M → (q p : ℕ) → Memᴰ p (kids M q) → Reached M q → Reached M p
kid_reached M W q p m h = let k = kid_of M W q p m in below k.symbol h k.found k.among k.is

module _ (same : Test) (M : Table) (W : WellMade M) (S : Selfsame same M) where
  -- The initial state is listed first.
  start_reached : (i : ℕ) → i ≡ zero → Reached M (listed same M i)
  start_reached i e = rw e (initial (sym (order_listed same M W S).first))

  -- The states that are listed at places below n are reached.
  listed_below : (n i : ℕ) → i < n → i < length (order same M) → Reached M (listed same M i)
  listed_below zero i h l = absurd (omega arith)
  listed_below (suc n) i h l =
      ⊎_elim (start_reached i)
      (λ p.
      let h = listed_below n p.place (omega (arith, p.earlier)) (omega (arith, p.earlier)) in
      kid_reached M W (listed same M p.place) (listed same M i) p.kid h)
      ((order_listed same M W S).parents i l)

  -- All listed states are reached.
  pub listed_reached : (i : ℕ) → i < length (order same M) → Reached M (listed same M i)
  listed_reached i l = listed_below (suc i) i (omega arith) l

  -- The order knows the initial state.
  pub start_numbered : InOrder same M M.start
  start_numbered =
      let v = order_listed same M W S in
      (W.start, known_at same (order same M) M.start zero v.some_state (rw v.first (S M.start W.start)))

  -- The test tells all states apart.
  module _ (one : (p q : ℕ) → p < M.states → q < M.states → same p q ≡ true → p ≡ q) where
    -- Then a state that the order knows is listed at its number.
    known_listed : (q : ℕ) → InOrder same M q → listed same M (number_of same M q) ≡ q
    known_listed q n =
        one (listed same M (number_of same M q)) q (listed_inside same M W S (number_of same M q) n.1) n.0 (number_same same (order same M) q n.1)

    -- So it knows its child states.
    kids_numbered : (q : ℕ) → InOrder same M q → All (InOrder same M) (kids M q)
    kids_numbered q n =
        let t = (order_listed same M W S).taken (number_of same M q) n.1 in
        all_both (λ s. s < M.states) (Known same (order same M)) (kids M q) (kids_inside M W q) (rw (known_listed q n) at t)

    -- It knows every reached state.
    pub reached_known : (q : ℕ) → Reached M q → InOrder same M q
    reached_known q (initial e) = rw (← e) start_numbered
    reached_known q (below {q = p} {r = r} f h e m d) =
        rw (← d)
        (all_mem (λ c. InOrder same M c.state) r.rest (find_children (InOrder same M) M.rows p f r (kids_numbered p (reached_known p h)) e) m)
