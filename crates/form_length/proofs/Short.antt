-- The form's text is never longer than the table's, and the form is within the limits of a table.
use mathlib.Core.Path.{◌≡◌, refl, ap, ◌∙◌}
use mathlib.Core.List.{List, [], ◌∷◌}
use Prim.Native.Nat.{ℕ, zero, ◌+◌, ◌≤◌}
use native.Mathlib.Omega.{arith}
use lib.ListN.{length, get_or, length-append}
use Rattle.machine.specs.Machine.{Child, Row, Table, Each, WellMade}
use Rattle.machine.specs.Form.{Test, Decides, order, rows_of, renumber, form_of, IsForm}
use Rattle.form_laws.specs.Listed.{number_of, numbered_rest}
use Rattle.form_laws.specs.Shrunk.{total, ByNumber}
use Rattle.form_laws.proofs.Lists.{all_map}
use Rattle.form_laws.proofs.Rows.{rows_of_all}
use Rattle.form_laws.proofs.Visit.{same_self}
use Rattle.form_laws.proofs.Order.{order_length}
use Rattle.form_laws.proofs.Made.{renumbered_all, form_made}
use Rattle.form_laws.proofs.Size.{is_form_rows, is_form_total}
use Rattle.text.specs.Lines.{line_of}
use Rattle.text.specs.Writing.{row_frame, initial_frame, symbol_lines, row_lines, write_table, Short, ShortRow, Limited}
use Rattle.text.proofs.Lines.{length_line}
use Rattle.form_length.proofs.Lengths.{length_row}

-- The lines of rows are as long as all of them together.
rows_total : (rows : List Row) → length (row_lines rows) ≡ total (λ r. length (line_of (row_frame r))) rows
unfolding row_lines
rows_total [] = refl
rows_total (r ∷ rs) = length-append (line_of (row_frame r)) (row_lines rs) ∙ ap (λ (n : ℕ). length (line_of (row_frame r)) + n) (rows_total rs)

-- A row's line is as long by any number.
row_any : (r s : Row) → ByNumber r s → length (line_of (row_frame r)) ≡ length (line_of (row_frame s))
row_any r s b =
    let e : length (row_frame s) ≡ length (row_frame r) = ap (λ (x : Row). length (row_frame x)) b.2 ∙ length_row b.0 b.1 r in
    omega (arith, length_line (row_frame r), length_line (row_frame s), e)

-- The initial rule's frame has the letters of its words, and five bytes more.
initial_long : (M : Table) → length (initial_frame M) ≡ length M.before + length M.after + 5
unfolding initial_frame
initial_long M = simp length-append (omega arith)

-- A table's text is as long as its lines.
text_long : (M : Table) → length (write_table M)
    ≡ length (symbol_lines M.arities) + length (line_of (initial_frame M)) + length (row_lines M.rows) + length (line_of (4 ∷ []))
unfolding write_table
text_long M = simp length-append refl

module _ (same : Test) (M : Table) (W : WellMade M) (D : Decides same M) where
  -- The form is a form.
  is_form : IsForm M (form_of same M)
  is_form = record { same = same; decides = D; form = refl }

  -- The form's text is never longer than the table's text.
  pub form_short : length (write_table (form_of same M)) ≤ length (write_table M)
  unfolding form_of
  form_short =
      let F : Table = form_of same M in
      omega (
        arith,
        text_long F,
        text_long M,
        length_line (initial_frame F),
        length_line (initial_frame M),
        initial_long F,
        initial_long M,
        rows_total F.rows,
        rows_total M.rows,
        is_form_total M F W is_form (λ r. length (line_of (row_frame r))) row_any,
      )

-- The words of a row are short by any numbers.
short_any : (number : ℕ → ℕ) (i : ℕ) (r : Row) → ShortRow r → ShortRow (renumber number i r)
short_any number i r h = (h.0, go r.rule.rest h.1)
  where
    go : (cs : List Child) → Each (λ c ds. Short c.after) cs → Each (λ c ds. Short c.after) (numbered_rest number cs)
    go [] k = tt
    go (c ∷ cs) k = (k.0, go cs k.1)

-- The form of a table that is within the limits is within the limits, so that its text is a table text.
pub form_limited : (same : Test) (M : Table) → Limited M → Decides same M → Limited (form_of same M)
unfolding form_of
form_limited same M L D =
    record {
      made = form_made same M L.made D;
      some_symbol = L.some_symbol;
      symbols = L.symbols;
      arities = L.arities;
      states = omega (arith, order_length same M L.made (same_self same M D), L.states);
      before = L.before;
      after = L.after;
      rows = omega (arith, is_form_rows M (form_of same M) L.made (is_form same M L.made D), L.rows);
      short = renumbered_all (number_of same M) M.rows ShortRow zero (order same M)
          (λ j l. all_map ShortRow (λ r. ShortRow (renumber (number_of same M) (zero + j) r)) (short_any (number_of same M) (zero + j))
          (rows_of M.rows (get_or (order same M) j zero))
          (rows_of_all ShortRow M.rows (get_or (order same M) j zero) L.short));
      text = omega (arith, form_short same M L.made D, L.text);
    }
