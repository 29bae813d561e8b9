-- The lines of a state's rules, one rule after the other.
use mathlib.Core.Path.{◌≡◌, sym, ap, ◌∙◌}
use mathlib.Core.List.{List, [], ◌∷◌, ◌++◌, map, append-nil, map-append}
use mathlib.Core.Option.{some, some-injective, none-ne-some}
use Prim.Native.Nat.{ℕ, zero, suc, ◌+◌, ◌≤◌}
use native.Mathlib.Numerals.{add-one}
use native.Mathlib.Omega.{arith}
use lib.ListN.{get_elem?}
use lib.Seq.{slice, slice_empty}
use Rattle.machine.specs.Machine.{Row, Table}
use Rattle.machine.specs.Form.{rows_of, renumber}
use Rattle.text.specs.Lines.{line_of}
use Rattle.text.specs.Writing.{row_frame, row_lines}
use Rattle.text.proofs.Stages.{rows_append}
use Rattle.layout.specs.Leaves.{RulesOf}

-- A range with the row behind it.
slice_more : (rows : List Row) (from i : ℕ) (r : Row) → from ≤ i → get_elem? rows i ≡ some r → slice from (suc i) rows ≡ slice from i rows ++ r ∷ []
slice_more [] from i r h e = absurd (none-ne-some r e)
slice_more (x ∷ rows) zero zero r h e = ap (λ (y : Row). y ∷ []) (some-injective _ _ e)
slice_more (x ∷ rows) zero (suc i) r h e = ap (λ (l : List Row). x ∷ l) (slice_more rows zero i r (omega arith) e)
slice_more (x ∷ rows) (suc from) zero r h e = absurd (omega arith)
slice_more (x ∷ rows) (suc from) (suc i) r h e = slice_more rows from i r (omega arith) e

module _ (number : ℕ → ℕ) (n : ℕ) (rows : List Row) where
  -- The lines of the rows from number `from` on and before number `to`, under number n.
  abbrev pub range_lines : ℕ → ℕ → List ℕ
  range_lines from to = row_lines (map (renumber number n) (slice from to rows))

  -- At first there are none.
  pub range_none : (from : ℕ) → [] ≡ range_lines from from
  unfolding row_lines
  range_none from = ap (λ (l : List Row). row_lines (map (renumber number n) l)) (sym (slice_empty from rows))

  -- Then there is one more.
  pub range_more : (from i : ℕ) (r : Row) → from ≤ i → get_elem? rows i ≡ some r
      → range_lines from i ++ line_of (row_frame (renumber number n r)) ≡ range_lines from (i + 1)
  unfolding row_lines
  range_more from i r h e =
      let xs : List Row = map (renumber number n) (slice from i rows) in
      let x : Row = renumber number n r in
      ap (λ (l : List ℕ). row_lines xs ++ l) (sym (append-nil (line_of (row_frame x)))) ∙ sym (rows_append xs (x ∷ []))
      ∙ ap row_lines (sym (map-append (renumber number n) (slice from i rows) (r ∷ [])))
      ∙ ap (λ (l : List Row). row_lines (map (renumber number n) l)) (sym (slice_more rows from i r h e)) ∙ ap (λ (k : ℕ). range_lines from k) (sym (add-one i))

-- At last they are the lines of the state.
pub range_all : {M : Table} {q from to : ℕ} (number : ℕ → ℕ) (n i : ℕ) → RulesOf M q from to → i ≤ to → to ≤ i
    → range_lines number n M.rows from i ≡ row_lines (map (renumber number n) (rows_of M.rows q))
range_all {M} {q} {from} {to} number n i h a b =
    let e : i ≡ to = omega arith in
    ap (λ (k : ℕ). range_lines number n M.rows from k) e ∙ ap (λ (l : List Row). row_lines (map (renumber number n) l)) (sym h.rows)
