-- The frames of a limited table have fewer than 16,384 bytes: its text has two digits a byte and one line feed a frame.
use mathlib.Core.Path.{◌≡◌}
use mathlib.Core.List.{List, [], ◌∷◌}
use Prim.Native.Nat.{ℕ, ◌+◌, ◌*◌, ◌<◌}
use native.Mathlib.Omega.{arith}
use lib.ListN.{length, length-append}
use Rattle.machine.specs.Machine.{Row, Table}
use Rattle.text.proofs.Lines.{length_line}
use Rattle.text.specs.Writing.{row_frame, initial_frame, symbol_lines, row_lines, write_table, Limited}
use Rattle.layout.specs.Layout.{symbol_frames, row_frames, head_frames, frames_of}

-- A symbol's frame has two bytes.
pub length_symbols : (xs : List ℕ) → length (symbol_frames xs) ≡ 2 * length xs
unfolding symbol_frames
length_symbols [] = omega arith
length_symbols (a ∷ xs) = omega (arith, length_symbols xs)

-- The symbols' lines.
length_symbol_lines : (xs : List ℕ) → length (symbol_lines xs) ≡ 2 * length (symbol_frames xs) + length xs
unfolding symbol_lines symbol_frames
length_symbol_lines [] = omega arith
length_symbol_lines (a ∷ xs) = simp length-append (omega (arith, length_line (1 ∷ a ∷ []), length_symbol_lines xs))

-- The rules' lines.
pub length_row_lines : (rs : List Row) → length (row_lines rs) ≡ 2 * length (row_frames rs) + length rs
unfolding row_lines row_frames
length_row_lines [] = omega arith
length_row_lines (r ∷ rs) = simp length-append (omega (arith, length_line (row_frame r), length_row_lines rs))

-- A table's text has two digits for each byte of its frames, and a line feed for each symbol, each rule, the initial rule and the end.
pub length_text : (M : Table) → length (write_table M) ≡ 2 * length (frames_of M) + length M.arities + length M.rows + 2
unfolding write_table frames_of head_frames
length_text M =
    simp length-append
    (omega (arith, length_symbol_lines M.arities, length_line (initial_frame M), length_row_lines M.rows, length_line (4 ∷ [])))

-- The frames of a limited table fit.
pub frames_fit : {M : Table} → Limited M → length (frames_of M) < 16384
frames_fit {M} l = omega (arith, length_text M, l.text, l.some_symbol)
