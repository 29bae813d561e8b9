-- The text of a table within the limits is read as that table.
use mathlib.Core.Path.{◌≡◌, refl, sym, ap, ◌∙◌}
use mathlib.Core.List.{List, [], ◌∷◌, ◌++◌, append_assoc, append-nil}
use Prim.Native.Nat.{ℕ, suc, ◌+◌, ◌≤◌}
use native.Mathlib.Omega.{arith}
use lib.ListN.{length, length-append}
use lib.Seq.{append_snoc}
use Rattle.words.specs.Reply.{given}
use Rattle.machine.specs.Machine.{Child, Row, Table, Every, Rising, RowFits}
use Rattle.text.specs.Limits.{symbols_most, arity_most, states_most, rows_most}
use Rattle.text.specs.Lines.{Lines, lines_of, hex_of, line_of}
use Rattle.text.specs.Frames.{Stage, symbols, rules, ended}
use Rattle.text.specs.Reading.{read_lines, read_table}
use Rattle.text.specs.Writing.{text_of, children_text, row_frame, initial_frame, symbol_lines, row_lines, write_table}
use Rattle.text.specs.Writing.{AtMost, Short, ShortRow, Limited}
use Rattle.text.proofs.Digits.{hex_bytes}
use Rattle.text.proofs.Lines.{lines_frame}
use Rattle.text.proofs.Fields.{most_append, StatesBelow, ShortWords}
use Rattle.text.proofs.Rising.{rising_rises}
use Rattle.text.proofs.Frames.{StartLimits, RowDue, with_rows, Takes, symbol, start, row, end, takes_step}
use Rattle.text.proofs.Reading.{read_next, read_fit}
use Rattle.text.proofs.Stages.{fits_with}

-- ---- what is written is bytes

-- A short word's bytes.
text_bytes : (u : List ℕ) → Short u → AtMost 255 (text_of u)
text_bytes u h = (omega (arith, h.length), h.letters)

-- The children's bytes.
children_bytes : (n : ℕ) → n ≤ states_most → (cs : List Child) → StatesBelow n cs → ShortWords cs → AtMost 255 (children_text cs)
unfolding children_text
children_bytes n l [] h k = tt
children_bytes n l (c ∷ cs) h k =
    let word = text_bytes c.after k.0 in
    let later = children_bytes n l cs h.1 k.1 in
    (omega (arith, h.0), most_append 255 (text_of c.after) (children_text cs) word later)

-- The initial frame's bytes.
initial_bytes : (M : Table) → StartLimits M → AtMost 255 (initial_frame M)
unfolding initial_frame
initial_bytes M h =
    let before = text_bytes M.before h.before in
    let behind : AtMost 255 (M.start ∷ text_of M.after) = (omega (arith, h.start, h.states), text_bytes M.after h.after) in
    (omega arith, (omega (arith, h.states), most_append 255 (text_of M.before) (M.start ∷ text_of M.after) before behind))

-- A row's bytes.
row_bytes : (M : Table) (r : Row) → M.states ≤ states_most → length M.arities ≤ symbols_most → RowFits M r → ShortRow r
    → AtMost 255 (row_frame r)
unfolding row_frame
row_bytes M r h k f s =
    let first = text_bytes r.rule.first s.0 in
    let below = children_bytes M.states h r.rule.rest f.children s.1 in
    let words = most_append 255 (text_of r.rule.first) (children_text r.rule.rest) first below in
    (omega arith, (omega (arith, f.state), (omega (arith, f.symbol), words)))

-- ---- one line at a time

-- The line of a frame that takes the stage on is read, and the place is behind it.
read_frame : (s : Stage) (frame : List ℕ) (s' : Stage) (p : ℕ) (t : List ℕ) → AtMost 255 frame → Takes s frame s'
    → read_lines s p (lines_of (line_of frame ++ t)) ≡ read_lines s' (p + length (line_of frame)) (lines_of t)
unfolding read_lines line_of
read_frame s frame s' p t h k =
    let behind : p + suc (length (hex_of frame)) ≡ p + length (line_of frame) = omega (arith, length-append (hex_of frame) (0x0a ∷ [])) in
    rw (lines_frame frame t, ← behind) (read_next s p (hex_of frame) (lines_of t) frame (hex_bytes frame h) s' (takes_step s frame s' k))

-- The same stage at the same place.
same_read : (s s' : Stage) (p p' : ℕ) (ls : Lines) → s ≡ s' → p ≡ p' → read_lines s p ls ≡ read_lines s' p' ls
same_read s s' p p' ls e f = rw (e, f)

-- Symbols behind symbols.
read_symbols : (ks ls : List ℕ) (p : ℕ) (t : List ℕ) → length ks + length ls ≤ symbols_most → AtMost arity_most ls
    → read_lines (symbols ks) p (lines_of (symbol_lines ls ++ t)) ≡ read_lines (symbols (ks ++ ls)) (p + length (symbol_lines ls)) (lines_of t)
unfolding symbol_lines
read_symbols ks [] p t h k = same_read (symbols ks) _ p _ (lines_of t) (ap symbols (sym (append-nil ks))) (omega arith)
read_symbols ks (a ∷ ls) p t h k =
    let frame : List ℕ = 1 ∷ a ∷ [] in
    let line = line_of frame in
    let bytes : AtMost 255 frame = (omega arith, (omega (arith, k.0), tt)) in
    let takes = symbol ks a refl refl refl (omega arith) k.0 in
    rw append_assoc (read_frame (symbols ks) frame (symbols (ks ++ a ∷ [])) p (symbol_lines ls ++ t) bytes takes)
    ∙ read_symbols (ks ++ a ∷ []) ls (p + length line) t (omega (arith, length-append ks (a ∷ []))) k.1
    ∙ same_read _ _ _ _ (lines_of t) (ap symbols (append_snoc ks a ls)) (omega (arith, length-append line (symbol_lines ls)))

module _ (M : Table) (h : M.states ≤ states_most) (k : length M.arities ≤ symbols_most) where
  -- Rows behind rows.
  read_rows : (qs rs : List Row) (p : ℕ) (t : List ℕ) → length qs + length rs ≤ rows_most
      → Every (RowFits M) rs → Every ShortRow rs → Rising (qs ++ rs)
      → read_lines (rules (with_rows M qs)) p (lines_of (row_lines rs ++ t))
      ≡ read_lines (rules (with_rows M (qs ++ rs))) (p + length (row_lines rs)) (lines_of t)
  unfolding row_lines
  read_rows qs [] p t l f s u =
      same_read (rules (with_rows M qs)) _ p _ (lines_of t) (ap (λ x. rules (with_rows M x)) (sym (append-nil qs))) (omega arith)
  read_rows qs (r ∷ rs) p t l f s u =
      let read = with_rows M qs in
      let line = line_of (row_frame r) in
      let bytes = row_bytes M r h k f.0 s.0 in
      let due : RowDue read r = record { room = omega arith; fits = fits_with M qs r f.0; short = s.0; rises = rising_rises qs r rs u } in
      let takes = row read r refl refl refl due in
      rw append_assoc (read_frame (rules read) (row_frame r) (rules (with_rows M (qs ++ r ∷ []))) p (row_lines rs ++ t) bytes takes)
      ∙ read_rows (qs ++ r ∷ []) rs (p + length line) t (omega (arith, length-append qs (r ∷ []))) f.1 s.1 (rw append_snoc u)
      ∙ same_read _ _ _ _ (lines_of t) (ap (λ y. rules (with_rows M y)) (append_snoc qs r rs)) (omega (arith, length-append line (row_lines rs)))

-- ---- the whole text

-- The parts of a text, from left to right.
write_parts : (M : Table) → write_table M ≡ symbol_lines M.arities ++ (line_of (initial_frame M) ++ (row_lines M.rows ++ (line_of (4 ∷ []) ++ [])))
unfolding write_table
write_parts M = simp (append_assoc, append-nil)

-- The lines of a written table are read as the table.
read_lines_lem : (M : Table) → Limited M → read_lines (symbols []) 0 (lines_of (write_table M)) ≡ given M
unfolding read_lines lines_of initial_frame
read_lines_lem M h =
    let last = line_of (4 ∷ []) ++ [] in
    let from_rows = row_lines M.rows ++ last in
    let from_start = line_of (initial_frame M) ++ from_rows in
    let first = with_rows M [] in
    let started : StartLimits first =
    record { some_symbol = h.some_symbol; states = h.states; before = h.before; start = h.made.start; after = h.after } in
    let takes = start first refl refl refl refl started in
    ap (λ t. read_lines (symbols []) 0 (lines_of t)) (write_parts M)
    ∙ read_symbols [] M.arities 0 from_start (omega (arith, h.symbols)) h.arities
    ∙ read_frame (symbols M.arities) (initial_frame M) (rules first) _ from_rows (initial_bytes first started) takes
    ∙ read_rows M h.states h.symbols [] M.rows _ last (omega (arith, h.rows)) h.made.rows h.short h.made.rising
    ∙ read_frame (rules M) (4 ∷ []) (ended M) _ [] (omega arith, tt) (end M refl refl refl)

-- A written table is not empty.
write_some : (M : Table) → 1 ≤ length (write_table M)
unfolding write_table line_of hex_of
write_some M = omega (arith, length-append (symbol_lines M.arities ++ line_of (initial_frame M) ++ row_lines M.rows) (line_of (4 ∷ [])))

-- The text of a table within the limits is read as that table.
pub read_write : (M : Table) → Limited M → read_table (write_table M) ≡ given M
read_write M h = read_fit (write_table M) (write_some M) h.text ∙ read_lines_lem M h
