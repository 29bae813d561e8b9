-- The form's text, piece by piece as it is written.
use mathlib.Core.Path.{◌≡◌, sym, ap, ap₂, ◌∙◌}
use mathlib.Core.List.{List, [], ◌∷◌, ◌++◌, append_assoc, append-nil}
use Prim.Native.Nat.{ℕ, zero, ◌+◌, ◌<◌}
use native.Mathlib.Numerals.{add-one}
use lib.ListN.{length, get_or, take}
use lib.Seq.{take-suc}
use Rattle.machine.specs.Machine.{Row, Table}
use Rattle.machine.specs.Form.{Test, Decides, renumbered, form_of}
use Rattle.text.specs.Lines.{hex_of, line_of}
use Rattle.text.specs.Writing.{text_of, initial_frame, symbol_lines, row_lines, write_table, Limited}
use Rattle.text.proofs.Digits.{hex_append}
use Rattle.text.proofs.Stages.{symbols_append}
use Rattle.form_numbers.specs.Numbers.{NumberedByVisit}
use Rattle.form_rows.specs.Rows.{named}
use Rattle.form_writer.specs.Lines.{initial_of}
use Rattle.form_writer.proofs.Named.{form_rows}

-- The pieces of a symbol's line.
pub symbol_line : (a b : ℕ) → a ≡ b → hex_of (1 ∷ []) ++ hex_of (a ∷ []) ++ 10 ∷ [] ≡ line_of (1 ∷ b ∷ [])
unfolding hex_of line_of
symbol_line a b e = ap (λ (k : ℕ). hex_of (1 ∷ k ∷ []) ++ 10 ∷ []) e

-- The lines of one symbol more.
pub symbols_more : (xs : List ℕ) (k : ℕ) → k < length xs → symbol_lines (take k xs) ++ line_of (1 ∷ get_or xs k 0 ∷ []) ≡ symbol_lines (take (k + 1) xs)
unfolding symbol_lines
symbols_more xs k h =
    ap (λ (l : List ℕ). symbol_lines (take k xs) ++ l) (sym (append-nil (line_of (1 ∷ get_or xs k 0 ∷ [])))) ∙ sym
    (symbols_append (take k xs) (get_or xs k 0 ∷ []))
    ∙ ap symbol_lines (sym (take-suc xs k 0 h)) ∙ ap (λ (n : ℕ). symbol_lines (take n xs)) (sym (add-one k))

-- The pieces of the initial rule's line.
pub initial_line : (n : ℕ) (b a : List ℕ)
    → hex_of (2 ∷ []) ++ hex_of (n ∷ []) ++ hex_of (text_of b) ++ hex_of (0 ∷ []) ++ hex_of (text_of a) ++ 10 ∷ [] ≡ line_of
    (2 ∷ n ∷ text_of b ++ 0 ∷ text_of a)
unfolding hex_of line_of
initial_line n b a =
    rw (hex_append b (0 ∷ text_of a)) (ap (λ (l : List ℕ). l ++ 10 ∷ []) (append_assoc (hex_of (2 ∷ n ∷ text_of b)) (hex_of (0 ∷ [])) (hex_of (text_of a))))

-- The pieces of the form's text.
pub form_text : {same : Test} {M : Table} {O N : List ℕ} {n : ℕ} → NumberedByVisit same M O N n → (k : ℕ) → Limited M → Decides same M → k ≡ n
    → symbol_lines M.arities ++ line_of (initial_of M k) ++ row_lines (renumbered (named N) M.rows zero (take k O)) ++ (hex_of (4 ∷ []) ++ 10 ∷ [])
    ≡ write_table (form_of same M)
unfolding write_table form_of line_of initial_frame
form_text {same} {M} {O} {N} {n} h k L D e =
    (λ i. symbol_lines M.arities ++ line_of (initial_of M (e i)) ++ row_lines (renumbered (named N) M.rows zero (take (e i) O)) ++ line_of (4 ∷ []))
    ∙ ap₂ (λ (c : ℕ) (rows : List Row). symbol_lines M.arities ++ line_of (initial_of M c) ++ row_lines rows ++ line_of (4 ∷ []))
    h.count (form_rows same M O N n L D h)
