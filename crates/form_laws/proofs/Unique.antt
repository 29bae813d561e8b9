-- Tables whose rows a relation of states keeps have one form; so a table has one form.
use mathlib.Core.Path.{◌≡◌, refl, sym, ap, ◌∙◌, subst}
use mathlib.Core.Bool.{Bool, true, false}
use mathlib.Core.List.{List, [], ◌∷◌}
use Prim.Native.Nat.{ℕ, zero, ◌+◌, ◌<◌}
use native.Mathlib.Omega.{arith}
use Rattle.machine.specs.Machine.{Child, Row, Table, WellMade, word}
use Rattle.machine.specs.Same.{Same}
use Rattle.machine.specs.Twins.{Rests}
use Rattle.machine.specs.Form.{Test, Decides, order, rows_of, form_of, IsForm}
use Rattle.machine.proofs.Twins.{Two}
use Rattle.form_laws.specs.Listed.{number_of}
use Rattle.form_laws.specs.Pairs.{Pairs}
use Rattle.form_laws.proofs.Lists.{All, pairs_length}
use Rattle.form_laws.proofs.Rows.{Children, all_child_states, kids_inside}
use Rattle.form_laws.proofs.Visit.{same_self}
use Rattle.form_laws.proofs.Order.{order_enough}
use Rattle.form_laws.proofs.Lockstep.{RowsLike, number_pairs, visit_pairs, renumbered_equal}

-- Two tests that imply each other are equal.
tests_equal : (b c : Bool) → (b ≡ true → c ≡ true) → (c ≡ true → b ≡ true) → b ≡ c
tests_equal true c f g = sym (f refl)
tests_equal false true f g = g refl
tests_equal false false f g = refl

-- Tables with equal fields are equal.
table_equal : (M N : Table) → M.arities ≡ N.arities → M.states ≡ N.states
    → M.before ≡ N.before → M.start ≡ N.start → M.after ≡ N.after → M.rows ≡ N.rows → M ≡ N
table_equal M N a b c d e f = λ i. record { arities = a i; states = b i; before = c i; start = d i; after = e i; rows = f i }

module _ (M N : Table) (s t : Test) (W : WellMade M) (W' : WellMade N) (D : Decides s M) (D' : Decides t N) where
  -- The tests answer the same of states with the same words.
  tests_same : (p q p' q' : ℕ) → Two M N (Same M N) p p' → Two M N (Same M N) q q' → s p q ≡ t p' q'
  tests_same p q p' q' h k =
      let a = D p q h.0 k.0 in
      let b = D' p' q' h.1 k.1 in
      tests_equal (s p q) (t p' q')
      (λ e. b.1 (λ u. sym (h.2 u) ∙ a.0 e u ∙ k.2 u))
      (λ e. a.1 (λ u. h.2 u ∙ b.0 e u ∙ sym (k.2 u)))

  module _ (R : ℕ → ℕ → Type 0) (inside : (q r : ℕ) → R q r → Two M N (Same M N) q r)
      (alike : (q r : ℕ) → R q r → Pairs (RowsLike R) (rows_of M.rows q) (rows_of N.rows r)) (start : R M.start N.start) where
    -- The tests answer the same of related states.
    tests : (p q p' q' : ℕ) → R p p' → R q q' → s p q ≡ t p' q'
    tests p q p' q' h k = tests_same p q p' q' (inside p p' h) (inside q q' k)

    -- The orders of the two tables have one length and related states.
    orders_pairs : Pairs R (order s M) (order t N)
    orders_pairs =
        let n : ℕ = M.states + N.states in
        rw (order_enough s M W (same_self s M D) n (omega arith), order_enough t N W' (same_self t N D') n (omega arith))
        (visit_pairs s t R tests M.rows N.rows alike (M.states + N.states) zero (M.start ∷ []) (N.start ∷ []) (start, tt))

    -- The two tables have one form.
    pub forms_equal : M.arities ≡ N.arities → M.before ≡ N.before → M.after ≡ N.after → form_of s M ≡ form_of t N
    unfolding form_of
    forms_equal a b c =
        table_equal (form_of s M) (form_of t N) a (pairs_length R (order s M) (order t N) orders_pairs) b refl c
        (renumbered_equal s t R tests M.rows N.rows alike (number_of s M) (number_of t N)
        (number_pairs s t R tests (order s M) (order t N) orders_pairs) zero (order s M) (order t N) orders_pairs)

-- One state of the table, twice.
abbrev One : Table → ℕ → ℕ → Type 0
One M q r = (q < M.states) × (q ≡ r)

-- The rest of a rule is like itself.
rest_self : (M : Table) (cs : List Child) → All (λ c. c.state < M.states) cs → Rests (One M) cs cs
rest_self M [] h = tt
rest_self M (c ∷ cs) h = ((h.0, refl), refl, rest_self M cs h.1)

-- Rows are like themselves.
rows_self : (M : Table) (rs : List Row) → Children (λ q. q < M.states) rs → Pairs (RowsLike (One M)) rs rs
rows_self M [] h = tt
rows_self M (r ∷ rs) h = (record { symbol = refl; first = refl; rest = rest_self M r.rule.rest h.0 }, rows_self M rs h.1)

-- Two tests that decide sameness in a table give one form of it.
tests_one_form : (M : Table) (s t : Test) → WellMade M → Decides s M → Decides t M → form_of s M ≡ form_of t M
tests_one_form M s t W D D' =
    forms_equal M M s t W W D D' (One M)
    (λ q r h. (h.0, rw (← h.1) h.0, λ u. ap (λ p. word M p u) h.1))
    (λ q r h. subst (λ (p : ℕ). Pairs (RowsLike (One M)) (rows_of M.rows q) (rows_of M.rows p)) h.1 (itself q))
    (W.start, refl) refl refl refl
  where
    itself : (q : ℕ) → Pairs (RowsLike (One M)) (rows_of M.rows q) (rows_of M.rows q)
    itself q = rows_self M (rows_of M.rows q) (all_child_states (λ p. p < M.states) (rows_of M.rows q) (kids_inside M W q))

-- A well-made table has one form.
pub form_unique : (M F G : Table) → WellMade M → IsForm M F → IsForm M G → F ≡ G
form_unique M F G W f g = f.form ∙ tests_one_form M f.same g.same W f.decides g.decides ∙ sym g.form
