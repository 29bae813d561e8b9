-- Stages of reading: what has been written up to a stage, and the limits that hold so far.
use mathlib.Core.Path.{◌≡◌, refl, sym, ap, ◌∙◌}
use mathlib.Core.List.{List, [], ◌∷◌, ◌++◌, append_assoc, append-nil}
use Prim.Native.Nat.{ℕ, ◌≤◌}
use native.Mathlib.Omega.{arith}
use lib.ListN.{length, length-append}
use Rattle.machine.specs.Machine.{Row, Table, Every, RowFits}
use Rattle.text.specs.Limits.{text_most, symbols_most, arity_most}
use Rattle.text.specs.Lines.{line_of}
use Rattle.text.specs.Frames.{Stage, symbols, rules, ended, with_row}
use Rattle.text.specs.Writing.{row_frame, initial_frame, symbol_lines, row_lines, write_table, AtMost, ShortRow, Limited}
use Rattle.text.proofs.Fields.{most_append}
use Rattle.text.proofs.Rising.{rising_snoc}
use Rattle.text.proofs.Frames.{StartLimits, RowDue, with_rows, Takes, symbol, start, row, end}

-- The limits of a table, if its text is not too long.
abbrev pub Bounded : Table → Type 0
Bounded M = length (write_table M) ≤ text_most → Limited M

-- The text up to a stage.
unfoldable pub written : Stage → List ℕ
written (symbols ks) = symbol_lines ks
written (rules M) = symbol_lines M.arities ++ line_of (initial_frame M) ++ row_lines M.rows
written (ended M) = write_table M

-- The limits that hold at a stage.
unfoldable pub StageLimits : Stage → Type 0
StageLimits (symbols ks) = (length ks ≤ symbols_most) × AtMost arity_most ks
StageLimits (rules M) = Bounded M
StageLimits (ended M) = Bounded M

-- ---- what a frame adds to the text

-- The lines of symbols and of more symbols.
pub symbols_append : (ks ls : List ℕ) → symbol_lines (ks ++ ls) ≡ symbol_lines ks ++ symbol_lines ls
unfolding symbol_lines
symbols_append [] ls = refl
symbols_append (k ∷ ks) ls = rw (symbols_append ks ls, append_assoc)

-- The lines of rows and of more rows.
pub rows_append : (rs qs : List Row) → row_lines (rs ++ qs) ≡ row_lines rs ++ row_lines qs
unfolding row_lines
rows_append [] qs = refl
rows_append (r ∷ rs) qs = rw (rows_append rs qs, append_assoc)

-- A frame adds its line.
pub takes_written : (s : Stage) (frame : List ℕ) (s' : Stage) → Takes s frame s' → written s' ≡ written s ++ line_of frame
unfolding written symbol_lines row_lines write_table initial_frame
takes_written s frame s' (symbol ks a e f g h k) = rw (e, f, g, symbols_append ks (a ∷ []), append-nil (line_of (1 ∷ a ∷ [])))
takes_written s frame s' (start M e f g h k) = rw (e, f, g, h) (append-nil (symbol_lines M.arities ++ line_of (initial_frame M)))
takes_written s frame s' (row M r e f g h) =
    let front = symbol_lines M.arities ++ line_of (initial_frame M) in
    let rows : row_lines (M.rows ++ r ∷ []) ≡ row_lines M.rows ++ line_of (row_frame r) =
    rows_append M.rows (r ∷ []) ∙ ap (λ x. row_lines M.rows ++ x) (append-nil (line_of (row_frame r))) in
    rw (e, f, g) (ap (λ x. front ++ x) rows ∙ sym (append_assoc front (row_lines M.rows) (line_of (row_frame r))))
takes_written s frame s' (end M e f g) = rw (e, f, g)

-- ---- what a frame keeps

-- What holds of every row, and what follows from it.
every_map : (P Q : Row → Type 0) → ((r : Row) → P r → Q r) → (rs : List Row) → Every P rs → Every Q rs
every_map P Q f [] h = tt
every_map P Q f (r ∷ rs) h = (f r h.0, every_map P Q f rs h.1)

-- What holds of every row and of one behind them.
every_snoc : (P : Row → Type 0) (rs : List Row) (r : Row) → Every P rs → P r → Every P (rs ++ r ∷ [])
every_snoc P [] r h k = (k, tt)
every_snoc P (s ∷ rs) r h k = (h.0, every_snoc P rs r h.1 k)

-- A row that fits a table fits it with other rows.
pub fits_with : (M : Table) (rs : List Row) (r : Row) → RowFits M r → RowFits (with_rows M rs) r
fits_with M rs r h = record { state = h.state; symbol = h.symbol; arity = h.arity; children = h.children }

-- A table that is started is within the limits if its symbols are.
start_bounded : (M : Table) → M.rows ≡ [] → (length M.arities ≤ symbols_most) × AtMost arity_most M.arities → StartLimits M → Bounded M
start_bounded M e w h k = record {
  made = record { start = h.start; rows = rw e tt; rising = rw e tt };
  some_symbol = h.some_symbol;
  symbols = w.0;
  arities = w.1;
  states = h.states;
  before = h.before;
  after = h.after;
  rows = rw e (omega arith);
  short = rw e tt;
  text = k;
}

-- A row makes the text longer.
row_longer : (M : Table) (r : Row) → length (write_table M) ≤ length (write_table (with_row M r))
unfolding write_table initial_frame
row_longer M r = rw (rows_append M.rows (r ∷ [])) (simp length-append (omega arith))

-- Rows that fit a table fit it with one row more that fits.
fits_more : (M : Table) (r : Row) → Every (RowFits M) M.rows → RowFits M r → Every (RowFits (with_row M r)) (M.rows ++ r ∷ [])
fits_more M r h k =
    let more = M.rows ++ r ∷ [] in
    every_map (RowFits M) (RowFits (with_row M r)) (fits_with M more) more (every_snoc (RowFits M) M.rows r h k)

-- A table with a row that may come next is within the limits if it was.
row_bounded : (M : Table) (r : Row) → Bounded M → RowDue M r → Bounded (with_row M r)
row_bounded M r bounded h k =
    let w = bounded (omega (arith, k, row_longer M r)) in
    record {
      made = record {
        start = w.made.start;
        rows = fits_more M r w.made.rows h.fits;
        rising = rising_snoc M.rows r w.made.rising h.rises;
      };
      some_symbol = w.some_symbol;
      symbols = w.symbols;
      arities = w.arities;
      states = w.states;
      before = w.before;
      after = w.after;
      rows = rw length-append (omega (arith, h.room));
      short = every_snoc ShortRow M.rows r w.short h.short;
      text = k;
    }

-- A frame keeps the limits.
pub takes_limits : (s : Stage) (frame : List ℕ) (s' : Stage) → StageLimits s → Takes s frame s' → StageLimits s'
unfolding StageLimits
takes_limits s frame s' w (symbol ks a e f g h k) =
    let v : (length ks ≤ symbols_most) × AtMost arity_most ks = rw e at w in
    rw g (omega (arith, length-append ks (a ∷ [])), most_append arity_most ks (a ∷ []) v.1 (k, tt))
takes_limits s frame s' w (start M e f g h k) = rw g (start_bounded M h (rw e at w) k)
takes_limits s frame s' w (row M r e f g h) = rw g (row_bounded M r (rw e at w) h)
takes_limits s frame s' w (end M e f g) = rw g (rw e at w)
