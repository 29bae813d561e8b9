-- The form of a well-made table is well made.
use mathlib.Core.Path.{◌≡◌, refl, ◌∙◌, subst}
use mathlib.Core.List.{List, [], ◌∷◌, ◌++◌, map}
use mathlib.Core.Logic.{inl, inr, ⊎_elim}
use Prim.Native.Nat.{ℕ, zero, suc, ◌+◌, ◌<◌, ◌≤◌}
use native.Mathlib.Omega.{arith}
use lib.ListN.{length, get_or, length-map}
use Rattle.machine.specs.Machine.{Child, Row, Table, Each, Before, RowFits, WellMade}
use Rattle.machine.specs.Form.{Test, Decides, order, rows_of, renumber, renumbered, form_of}
use Rattle.form_laws.specs.Listed.{listed, number_of, numbered_rest}
use Rattle.form_laws.proofs.Lists.{All, Ordered, all_map, all_append, all_image}
use Rattle.form_laws.proofs.Number.{Known}
use Rattle.form_laws.proofs.Rows.{rising_ordered, ordered_rising, rows_of_state, rows_of_ordered}
use Rattle.form_laws.proofs.Visit.{same_self}
use Rattle.form_laws.proofs.Order.{InOrder, ChildrenInOrder, order_listed}
use Rattle.form_laws.proofs.Meaning.{listed_rows}

module _ (number : ℕ → ℕ) (rows : List Row) where
  -- What holds of the rows of each listed state, by its number, holds of all renumbered rows.
  pub renumbered_all : (P : Row → Type 0) (i : ℕ) (qs : List ℕ)
      → ((j : ℕ) → j < length qs → All (λ r. P (renumber number (i + j) r)) (rows_of rows (get_or qs j zero)))
      → All P (renumbered number rows i qs)
  unfolding renumbered
  renumbered_all P i [] h = tt
  renumbered_all P i (q ∷ qs) h =
      all_append P (map (renumber number i) (rows_of rows q)) (renumbered number rows (suc i) qs)
      (all_image P (renumber number i) (rows_of rows q) (subst (λ (n : ℕ). Under n q) (omega arith) (h zero (omega arith))))
      (renumbered_all P (suc i) qs (λ j l. subst (λ (n : ℕ). Under n (get_or qs j zero)) (omega arith) (h (suc j) (omega arith))))
    where
      Under : ℕ → ℕ → Type 0
      Under n p = All (λ r. P (renumber number n r)) (rows_of rows p)

  -- Rows renumbered from i on have no state below i.
  renumbered_from : (i : ℕ) (qs : List ℕ) → All (λ r. i ≤ r.state) (renumbered number rows i qs)
  unfolding renumbered
  renumbered_from i [] = tt
  renumbered_from i (q ∷ qs) =
      let more : List Row = renumbered number rows (suc i) qs in
      let first = all_map (λ r. r.state ≡ q) (λ r. i ≤ i) (λ r e. omega arith) (rows_of rows q) (rows_of_state rows q) in
      all_append (λ r. i ≤ r.state) (map (renumber number i) (rows_of rows q)) more
      (all_image (λ r. i ≤ r.state) (renumber number i) (rows_of rows q) first)
      (all_map (λ r. suc i ≤ r.state) (λ r. i ≤ r.state) (λ r l. omega arith) more (renumbered_from (suc i) qs))

-- A list whose members stand before those behind them, and before those of another such list: both together are one.
ordered_append : {A : Type 0} (R : A → A → Type 0) (xs ys : List A) → Ordered R xs → Ordered R ys → All (λ x. All (R x) ys) xs → Ordered R (xs ++ ys)
ordered_append R [] ys h k l = k
ordered_append R (x ∷ xs) ys h k l = (all_append (R x) xs ys h.0 l.0, ordered_append R xs ys h.1 k l.1)

-- Rows of one state that stand before each other do so under any number.
before_renumbered : (number : ℕ → ℕ) (i q : ℕ) (rs : List Row) → All (λ r. r.state ≡ q) rs → Ordered Before rs → Ordered Before (map (renumber number i) rs)
before_renumbered number i q [] e h = tt
before_renumbered number i q (r ∷ rs) e h = (go rs e.1 h.0, before_renumbered number i q rs e.1 h.1)
  where
    go : (ss : List Row) → All (λ s. s.state ≡ q) ss → All (Before r) ss → All (Before (renumber number i r)) (map (renumber number i) ss)
    go [] d k = tt
    go (s ∷ ss) d k = (⊎_elim (λ l. absurd (omega (arith, e.0, d.0))) (λ l. inr (refl, l.1)) k.0, go ss d.1 k.1)

-- Renumbered rows stand before those behind them.
renumbered_ordered : (number : ℕ → ℕ) (rows : List Row) → Ordered Before rows → (i : ℕ) (qs : List ℕ) → Ordered Before (renumbered number rows i qs)
unfolding renumbered
renumbered_ordered number rows h i [] = tt
renumbered_ordered number rows h i (q ∷ qs) =
    ordered_append Before (map (renumber number i) (rows_of rows q)) more
    (before_renumbered number i q (rows_of rows q) (rows_of_state rows q) (rows_of_ordered Before rows q h))
    (renumbered_ordered number rows h (suc i) qs)
    (all_image (λ r. All (Before r) more) (renumber number i) (rows_of rows q)
    (all_map (λ r. r.state ≡ q) (λ r. All (Before (renumber number i r)) more) (λ r e. before_more r) (rows_of rows q) (rows_of_state rows q)))
  where
    more : List Row
    more = renumbered number rows (suc i) qs

    before_more : (r : Row) → All (Before (renumber number i r)) more
    before_more r = all_map (λ s. suc i ≤ s.state) (Before (renumber number i r)) (λ s l. inl l) more (renumbered_from number rows (suc i) qs)

-- Child states by number are below n where their numbers are.
numbered_each : (number : ℕ → ℕ) (n : ℕ) (cs : List Child) → All (λ c. number c.state < n) cs → Each (λ c ds. c.state < n) (numbered_rest number cs)
numbered_each number n [] h = tt
numbered_each number n (c ∷ cs) h = (h.0, numbered_each number n cs h.1)

module _ (same : Test) (M : Table) (W : WellMade M) (D : Decides same M) where
  -- A row of a listed state fits the form.
  row_fits : (i : ℕ) → i < length (order same M) → (r : Row) → RowFits M r → ChildrenInOrder same M r
      → RowFits (form_of same M) (renumber (number_of same M) i r)
  unfolding form_of
  row_fits i l r f h =
      record {
        state = l;
        symbol = f.symbol;
        arity = length-map r.rule.rest (λ c. record { state = number_of same M c.state; after = c.after }) ∙ f.arity;
        children = numbered_each (number_of same M) (length (order same M)) r.rule.rest
            (all_map (λ c. InOrder same M c.state) (λ c. Known same (order same M) c.state) (λ c n. n.1) r.rule.rest h);
      }

  -- The rows of the i-th listed state fit the form as rows of number n.
  abbrev FitAs : ℕ → ℕ → Type 0
  FitAs n i = All (λ r. RowFits (form_of same M) (renumber (number_of same M) n r)) (rows_of M.rows (listed same M i))

  -- They do as rows of number i.
  rows_fit : (i : ℕ) → i < length (order same M) → FitAs i i
  rows_fit i l =
      listed_rows same M W D (RowFits M) (λ r. RowFits (form_of same M) (renumber (number_of same M) i r)) W.rows i l (row_fits i l)

  -- The form of a well-made table is well made.
  pub form_made : WellMade (form_of same M)
  unfolding form_of
  form_made =
      let number : ℕ → ℕ = number_of same M in
      let states : List ℕ = order same M in
      record {
        start = (order_listed same M W (same_self same M D)).some_state;
        rows = renumbered_all number M.rows (RowFits (form_of same M)) zero states
            (λ i l. subst (λ (n : ℕ). FitAs n i) (omega arith) (rows_fit i l));
        rising = ordered_rising (renumbered number M.rows zero states)
            (renumbered_ordered number M.rows (rising_ordered M.rows W.rising) zero states);
      }
