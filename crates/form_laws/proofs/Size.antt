-- The form is never larger: its rows are rows of the table by number, each used at most once, and it has at most as many states.
use mathlib.Core.Path.{◌≡◌, refl, sym, ap, ap₂, ◌∙◌}
use mathlib.Core.List.{List, [], ◌∷◌, ◌++◌, map}
use mathlib.Core.Logic.{◌≢◌}
use Prim.Native.Nat.{ℕ, zero, suc, ◌+◌, ◌≤◌}
use native.Mathlib.Decide.{ℕ_discrete}
use native.Mathlib.Omega.{arith}
use lib.ListN.{length}
use Rattle.words.specs.Word.{Word}
use Rattle.machine.specs.Machine.{Child, Row, Table, WellMade}
use Rattle.machine.specs.Form.{Test, Decides, order, rows_of, renumber, renumbered, form_of, IsForm}
use Rattle.form_laws.specs.Listed.{number_of, numbered_rest}
use Rattle.form_laws.specs.Shrunk.{total, ByNumber, Shrunk}
use Rattle.form_laws.specs.Pairs.{Pairs}
use Rattle.form_laws.proofs.Lists.{All, all_map, Ordered, pairs_append}
use Rattle.form_laws.proofs.Rows.{rows_of_own, rows_of_past}
use Rattle.form_laws.proofs.Visit.{apart_different, same_self}
use Rattle.form_laws.proofs.Order.{order_listed, order_length}

-- The rows of the states of a list, in turn.
unfoldable chosen : List Row → List ℕ → List Row
chosen rows [] = []
chosen rows (q ∷ qs) = rows_of rows q ++ chosen rows qs

-- ---- the rows that are chosen
-- A row is not chosen for other states than its own.
chosen_past : (r : Row) (rs : List Row) (qs : List ℕ) → All (λ q. r.state ≢ q) qs → chosen (r ∷ rs) qs ≡ chosen rs qs
unfolding chosen
chosen_past r rs [] h = refl
chosen_past r rs (q ∷ qs) h = ap₂ (λ a b. a ++ b) (rows_of_past r rs q h.0) (chosen_past r rs qs h.1)

-- Of no rows none is chosen.
chosen_none : (qs : List ℕ) → chosen [] qs ≡ []
unfolding chosen rows_of
chosen_none [] = refl
chosen_none (q ∷ qs) = chosen_none qs

-- The renumbered rows are the chosen ones by number.
renumbered_chosen : (number : ℕ → ℕ) (rows : List Row) (i : ℕ) (qs : List ℕ) → Pairs ByNumber (chosen rows qs) (renumbered number rows i qs)
unfolding chosen renumbered
renumbered_chosen number rows i [] = tt
renumbered_chosen number rows i (q ∷ qs) =
    pairs_append ByNumber (rows_of rows q) (chosen rows qs) (map (renumber number i) (rows_of rows q)) (renumbered number rows (suc i) qs)
    (go (rows_of rows q)) (renumbered_chosen number rows (suc i) qs)
  where
    go : (rs : List Row) → Pairs ByNumber rs (map (renumber number i) rs)
    go [] = tt
    go (r ∷ rs) = ((number, i, refl), go rs)

module _ (size : Row → ℕ) where
  -- The sum over two lists of rows.
  total_append : (rs ss : List Row) → total size (rs ++ ss) ≡ total size rs + total size ss
  total_append [] ss = omega arith
  total_append (r ∷ rs) ss = omega (arith, total_append rs ss)

  -- A row is chosen at most once for different states.
  chosen_once : (r : Row) (rs : List Row) (qs : List ℕ) → Ordered ◌≢◌ qs → total size (chosen (r ∷ rs) qs) ≤ size r + total size (chosen rs qs)
  unfolding chosen
  chosen_once r rs [] h = omega arith
  chosen_once r rs (q ∷ qs) h =
      elim (ℕ_discrete r.state q) [
        | yes e ↦
            let others = all_map (λ p. q ≢ p) (λ p. r.state ≢ p) (λ p n d. n (sym e ∙ d)) qs h.0 in
            rw (rows_of_own r rs q e, chosen_past r rs qs others) (omega arith)
        | no n ↦
            let with_row = total_append (rows_of rs q) (chosen (r ∷ rs) qs) in
            let without = total_append (rows_of rs q) (chosen rs qs) in
            rw (rows_of_past r rs q n) (omega (arith, with_row, without, chosen_once r rs qs h.1))
      ]

  -- The sum over the rows of different states is at most that over all rows.
  chosen_total : (rows : List Row) (qs : List ℕ) → Ordered ◌≢◌ qs → total size (chosen rows qs) ≤ total size rows
  chosen_total [] qs h = rw (chosen_none qs) (omega arith)
  chosen_total (r ∷ rs) qs h = omega (arith, chosen_once r rs qs h, chosen_total rs qs h)

-- The words after children.
abbrev afters : List Child → List Word
afters = map (λ c. c.after)

-- They do not look at numbers.
afters_kept : (number : ℕ → ℕ) (cs : List Child) → afters (numbered_rest number cs) ≡ afters cs
afters_kept number [] = refl
afters_kept number (c ∷ cs) = ap (λ us. c.after ∷ us) (afters_kept number cs)

-- The symbol and all words of a row.
abbrev pub kept : Row → ℕ × Word × List Word
kept r = (r.symbol, r.rule.first, afters r.rule.rest)

-- A row by number has those of its row.
pub by_number_keeps : (r s : Row) → ByNumber r s → kept s ≡ kept r
by_number_keeps r s (number, i, e) = ap kept e ∙ ap (λ us. (r.symbol, r.rule.first, us)) (afters_kept number r.rule.rest)

-- Rows by number have the same sum of a measure that does not look at numbers.
total_by_number : (size : Row → ℕ) → ((r s : Row) → ByNumber r s → size r ≡ size s) → (rs ss : List Row) → Pairs ByNumber rs ss → total size rs ≡ total size ss
total_by_number size f [] [] h = refl
total_by_number size f [] (s ∷ ss) h = absurd h
total_by_number size f (r ∷ rs) [] h = absurd h
total_by_number size f (r ∷ rs) (s ∷ ss) h = ap₂ (λ m n. m + n) (f r s h.0) (total_by_number size f rs ss h.1)

-- The measure that counts rows.
total_one : (rs : List Row) → total (λ r. 1) rs ≡ length rs
total_one [] = refl
total_one (r ∷ rs) = omega (arith, total_one rs)

-- The form's rows are rows of the table by number, each used at most once.
form_shrunk : (same : Test) (M : Table) → WellMade M → Decides same M → Shrunk M (form_of same M)
unfolding form_of
form_shrunk same M W D =
    let v = order_listed same M W (same_self same M D) in
    record {
      used = chosen M.rows (order same M);
      numbered = renumbered_chosen (number_of same M) M.rows zero (order same M);
      once = λ size.
          chosen_total size M.rows (order same M) (apart_different same M W (same_self same M D) (order same M) v.inside v.apart);
    }

module _ (M F : Table) (W : WellMade M) (f : IsForm M F) where
  -- A form's rows are rows of the table by number, each used at most once.
  is_form_shrunk : Shrunk M F
  is_form_shrunk = rw f.form (form_shrunk f.same M W f.decides)

  -- The form has at most as many states.
  pub is_form_states : F.states ≤ M.states
  unfolding form_of
  is_form_states = rw f.form (order_length f.same M W (same_self f.same M f.decides))

  -- No sum over its rows of what does not look at numbers is above the table's.
  pub is_form_total : (size : Row → ℕ) → ((r s : Row) → ByNumber r s → size r ≡ size s) → total size F.rows ≤ total size M.rows
  is_form_total size e =
      let s : Shrunk M F = is_form_shrunk in
      omega (arith, total_by_number size e s.used F.rows s.numbered, s.once size)

  -- The form has at most as many rows.
  pub is_form_rows : length F.rows ≤ length M.rows
  is_form_rows = omega (arith, total_one F.rows, total_one M.rows, is_form_total (λ r. 1) (λ r s n. refl))
