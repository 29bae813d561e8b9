-- How long the form's text is, piece by piece: a rule's line is as long by any numbers.
use mathlib.Core.Path.{◌≡◌, ap, ◌∙◌}
use mathlib.Core.List.{List, [], ◌∷◌, ◌++◌, map}
use Prim.Native.Nat.{ℕ, zero, ◌+◌, ◌*◌, ◌<◌}
use native.Mathlib.Omega.{arith}
use lib.ListN.{length, get_or, take, length-append}
use lib.Seq.{slice}
use Rattle.machine.specs.Machine.{Child, Rule, Row, Table}
use Rattle.machine.specs.Form.{Test, order, number_in, rows_of, renumber, renumbered, form_of}
use Rattle.form_laws.specs.Listed.{numbered_rest, numbered_rule}
use Rattle.text.specs.Writing.{text_of, children_text, row_frame, initial_frame, symbol_lines, row_lines, write_table}
use Rattle.text.proofs.Lines.{length_line}
use Rattle.layout.specs.Layout.{rule_text}
use Rattle.layout.specs.Leaves.{RulesOf}
use Rattle.layout.proofs.Rows.{row_frame_lem}
use Rattle.form_length.proofs.States.{states_more}

module _ (number : ℕ → ℕ) where
  -- The children's bytes are as many by any numbers.
  length_numbered : (cs : List Child) → length (children_text (numbered_rest number cs)) ≡ length (children_text cs)
  unfolding children_text
  length_numbered [] = omega arith
  length_numbered (c ∷ cs) = simp length-append (omega (arith, length_numbered cs))

  -- So are a rule's.
  pub length_text : (r : Rule) → length (rule_text (numbered_rule number r)) ≡ length (rule_text r)
  unfolding rule_text
  length_text r = simp length-append (omega (arith, length_numbered r.rest))

  -- A rule's frame is as long, under any number.
  pub length_row : (n : ℕ) (r : Row) → length (row_frame (renumber number n r)) ≡ length (row_frame r)
  length_row n r = omega (arith, ap length (row_frame_lem (renumber number n r)), ap length (row_frame_lem r), length_text r.rule)

  -- So are lines.
  length_rows : (n : ℕ) (rs : List Row) → length (row_lines (map (renumber number n) rs)) ≡ length (row_lines rs)
  unfolding row_lines
  length_rows n [] = omega arith
  length_rows n (r ∷ rs) =
      simp length-append (omega (arith, length_rows n rs, length_row n r, length_line (row_frame (renumber number n r)), length_line (row_frame r)))

  -- One state more: its lines are as long as those of its rules in the table.
  pub states_longer : (M : Table) (O : List ℕ) (i q from to : ℕ) {a b : ℕ} → i < length O → q ≡ get_or O i 0 → RulesOf M q from to
      → a ≡ length (row_lines (renumbered number M.rows zero (take i O))) → b ≡ length (row_lines (slice from to M.rows))
      → a + b ≡ length (row_lines (renumbered number M.rows zero (take (i + 1) O)))
  states_longer M O i q from to h e own d k =
      let xs : List ℕ = row_lines (renumbered number M.rows zero (take i O)) in
      let ys : List ℕ = row_lines (map (renumber number i) (rows_of M.rows q)) in
      omega (
        arith,
        ap length (states_more number M.rows O i q h e),
        length-append xs ys,
        length_rows i (rows_of M.rows q),
        ap (λ (rs : List Row). length (row_lines rs)) own.rows,
      )

-- The symbols' lines.
length_symbol_lines : (xs : List ℕ) → length (symbol_lines xs) ≡ 5 * length xs
unfolding symbol_lines
length_symbol_lines [] = omega arith
length_symbol_lines (a ∷ xs) = simp length-append (omega (arith, length_line (1 ∷ a ∷ []), length_symbol_lines xs))

-- The form's text.
pub form_long : (same : Test) (M : Table) (O : List ℕ) (n s b a r : ℕ) → take n O ≡ order same M → s ≡ length M.arities → b ≡ length M.before
    → a ≡ length M.after
    → r ≡ length (row_lines (renumbered (number_in same (order same M)) M.rows zero (take n O)))
    → 5 * s + 2 * b + 2 * a + r + 14 ≡ length (write_table (form_of same M))
unfolding write_table form_of initial_frame
form_long same M O n s b a r e es eb ea er =
    let rows : List Row = renumbered (number_in same (order same M)) M.rows zero (order same M) in
    let d : r ≡ length (row_lines rows) = er ∙ ap (λ (l : List ℕ). length (row_lines (renumbered (number_in same (order same M)) M.rows zero l))) e in
    let frame : List ℕ = 2 ∷ length (order same M) ∷ text_of M.before ++ 0 ∷ text_of M.after in
    let f : length frame ≡ 5 + length M.before + length M.after = omega (arith, length-append (text_of M.before) (0 ∷ text_of M.after)) in
    simp length-append (omega (arith, d, length_symbol_lines M.arities, length_line frame, f, length_line (4 ∷ [])))
