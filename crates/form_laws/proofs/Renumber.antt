-- Rules in the renumbered rows: number i has the rules of the i-th state of the list, with their child states by number.
use mathlib.Core.Path.{◌≡◌, refl, sym, ap, ◌∙◌, subst}
use mathlib.Core.Bool.{and-false}
use mathlib.Core.List.{List, [], ◌∷◌, ◌++◌, map}
use mathlib.Core.Option
use mathlib.Core.Option.{none, some, some-injective, none-ne-some}
use Prim.Native.Nat.{ℕ, zero, suc, ◌+◌, ◌<◌}
use native.Mathlib.Nat.{not-suc-le-zero}
use native.Mathlib.Decide.{ℕ_discrete}
use native.Mathlib.Omega.{arith}
use lib.Dec.{eqb}
use lib.ListN.{length, get_or}
use borrow.Author.Tests.{eq-eqb, ne_eqb}
use Rattle.machine.specs.Machine.{Rule, Row, find}
use Rattle.machine.specs.Form.{rows_of, child_states, renumber, renumbered}
use Rattle.form_laws.specs.Listed.{numbered_rule}
use Rattle.form_laws.proofs.Lists.{All}
use Rattle.form_laws.proofs.Rows.{rows_of_own, rows_of_past, all_child_states}

-- A row that is for the state and the symbol is found.
pub find_first : (r : Row) (rs : List Row) (q f : ℕ) → r.state ≡ q → r.symbol ≡ f → find (r ∷ rs) q f ≡ some r.rule
unfolding find
find_first r rs q f d e = rw (eq-eqb r.state q d, eq-eqb r.symbol f e, find)

-- A row that is for another state is passed over.
pub find_past_state : (r : Row) (rs : List Row) (q f : ℕ) → (r.state ≡ q → ⊥) → find (r ∷ rs) q f ≡ find rs q f
unfolding find
find_past_state r rs q f n = rw (ne_eqb r.state q n, find)

-- A row that is for another symbol is passed over.
pub find_past_symbol : (r : Row) (rs : List Row) (q f : ℕ) → (r.symbol ≡ f → ⊥) → find (r ∷ rs) q f ≡ find rs q f
unfolding find
find_past_symbol r rs q f n = rw (ne_eqb r.symbol f n, and-false (eqb r.state q), find)

-- What holds of the rules of all rows of a state holds of a rule that is found for it.
find_rows_of : (P : Rule → Type 0) (rows : List Row) (q f : ℕ) (r : Rule) → All (λ s. P s.rule) (rows_of rows q) → find rows q f ≡ some r → P r
unfolding find
find_rows_of P [] q f r h e = absurd (none-ne-some r e)
find_rows_of P (s ∷ rs) q f r h e =
    elim (ℕ_discrete s.state q) [
      | yes i ↦
          let k : All (λ x. P x.rule) (s ∷ rows_of rs q) = rw (rows_of_own s rs q i) at h in
          elim (ℕ_discrete s.symbol f) [
            | yes j ↦ subst P (some-injective s.rule r (sym (find_first s rs q f i j) ∙ e)) k.0
            | no n ↦ find_rows_of P rs q f r k.1 (sym (find_past_symbol s rs q f n) ∙ e)
          ]
      | no n ↦ find_rows_of P rs q f r (rw (rows_of_past s rs q n) at h) (sym (find_past_state s rs q f n) ∙ e)
    ]

-- What holds of all child states of a state holds of those of a rule that is found for it.
pub find_children : (P : ℕ → Type 0) (rows : List Row) (q f : ℕ) (r : Rule)
    → All P (child_states (rows_of rows q)) → find rows q f ≡ some r → All (λ c. P c.state) r.rest
find_children P rows q f r h e = find_rows_of (λ s. All (λ c. P c.state) s.rest) rows q f r (all_child_states P (rows_of rows q) h) e

module _ (number : ℕ → ℕ) where
  -- Rows of another number are passed over.
  find_other : (i k f : ℕ) (rs ss : List Row) → (i ≡ k → ⊥) → find (map (renumber number i) rs ++ ss) k f ≡ find ss k f
  find_other i k f [] ss n = refl
  find_other i k f (r ∷ rs) ss n = find_past_state (renumber number i r) (map (renumber number i) rs ++ ss) k f n ∙ find_other i k f rs ss n

  -- In the rows of a state the rule is found that the table has for it.
  find_own : (rows : List Row) (q i f : ℕ) (ss : List Row) → find ss i f ≡ none
      → find (map (renumber number i) (rows_of rows q) ++ ss) i f ≡ Option.map (numbered_rule number) (find rows q f)
  unfolding find rows_of
  find_own [] q i f ss n = n
  find_own (r ∷ rs) q i f ss n =
      let more : List Row = map (renumber number i) (rows_of rs q) ++ ss in
      let rest : find more i f ≡ Option.map (numbered_rule number) (find rs q f) = find_own rs q i f ss n in
      elim (ℕ_discrete r.state q) [
        | yes d ↦
            ap (λ l. find (map (renumber number i) l ++ ss) i f) (rows_of_own r rs q d) ∙
            elim (ℕ_discrete r.symbol f) [
              | yes e ↦ find_first (renumber number i r) more i f refl e ∙ sym (ap (Option.map (numbered_rule number)) (find_first r rs q f d e))
              | no m ↦
                  find_past_symbol (renumber number i r) more i f m ∙
                  rest ∙ sym (ap (Option.map (numbered_rule number)) (find_past_symbol r rs q f m))
            ]
        | no m ↦
            ap (λ l. find (map (renumber number i) l ++ ss) i f) (rows_of_past r rs q m) ∙
            rest ∙ sym (ap (Option.map (numbered_rule number)) (find_past_state r rs q f m))
      ]

  -- Numbers from i on: nothing is found for a number below i.
  find_below : (rows : List Row) (i : ℕ) (qs : List ℕ) (k f : ℕ) → k < i → find (renumbered number rows i qs) k f ≡ none
  unfolding find renumbered
  find_below rows i [] k f l = refl
  find_below rows i (q ∷ qs) k f l =
      find_other i k f (rows_of rows q) (renumbered number rows (suc i) qs) (λ e. omega arith) ∙
      find_below rows (suc i) qs k f (omega arith)

  -- For the number of the j-th state of the list, the rule is found that the table has for that state.
  pub find_renumbered : (rows : List Row) (i : ℕ) (qs : List ℕ) (j k f : ℕ) → j < length qs → i + j ≡ k
      → find (renumbered number rows i qs) k f ≡ Option.map (numbered_rule number) (find rows (get_or qs j zero) f)
  unfolding find renumbered
  find_renumbered rows i [] j k f l e = absurd (not-suc-le-zero l)
  find_renumbered rows i (q ∷ qs) zero k f l e =
      let d : k ≡ i = omega arith in
      rw d (find_own rows q i f (renumbered number rows (suc i) qs) (find_below rows (suc i) qs i f (omega arith)))
  find_renumbered rows i (q ∷ qs) (suc j) k f l e =
      find_other i k f (rows_of rows q) (renumbered number rows (suc i) qs) (λ d. omega arith) ∙
      find_renumbered rows (suc i) qs j k f (omega arith) (omega arith)
