-- Writing a table, and the limits within which a table has a text. Definitions only.
use Rattle.std.specs.Prelude.{List, [], ◌∷◌, ◌++◌, ℕ, ◌≤◌, length}
use Rattle.words.specs.Word.{Word}
use Rattle.machine.specs.Machine.{Child, Row, Table, Each, Every, WellMade}
use Rattle.text.specs.Limits.{text_most, symbols_most, arity_most, states_most, letters_most, rows_most}
use Rattle.text.specs.Lines.{line_of}

-- A word is its length in one byte and then its letters.
abbrev pub text_of : Word → List ℕ
text_of u = length u ∷ u

-- For each child its state and a word.
unfoldable pub children_text : List Child → List ℕ
children_text [] = []
children_text (c ∷ cs) = c.state ∷ text_of c.after ++ children_text cs

-- Frame 03: state, symbol, word u0, then the children.
unfoldable pub row_frame : Row → List ℕ
row_frame r = 3 ∷ r.state ∷ r.symbol ∷ text_of r.rule.first ++ children_text r.rule.rest

-- Frame 02: number of states, word u0, state, word u1.
unfoldable pub initial_frame : Table → List ℕ
initial_frame M = 2 ∷ M.states ∷ text_of M.before ++ M.start ∷ text_of M.after

-- A line 01 for each symbol.
unfoldable pub symbol_lines : List ℕ → List ℕ
symbol_lines [] = []
symbol_lines (a ∷ more) = line_of (1 ∷ a ∷ []) ++ symbol_lines more

-- A line 03 for each rule.
unfoldable pub row_lines : List Row → List ℕ
row_lines [] = []
row_lines (r ∷ rs) = line_of (row_frame r) ++ row_lines rs

-- The text of a table: one or more 01, one 02, the 03 in rising order, one 04.
unfoldable pub write_table : Table → List ℕ
write_table M = symbol_lines M.arities ++ line_of (initial_frame M) ++ row_lines M.rows ++ line_of (4 ∷ [])

-- Every number of the list is at most `most`.
abbrev pub AtMost : ℕ → List ℕ → Type 0
AtMost most [] = Unit {0}
AtMost most (x ∷ xs) = (x ≤ most) × AtMost most xs

-- A word of at most 32 letters, each a byte.
pub record Short (u : Word) : Type 0 where
  pub length : length u ≤ letters_most
  pub letters : AtMost 255 u

-- A row's words are short.
abbrev pub ShortRow : Row → Type 0
ShortRow r = Short r.rule.first × Each (λ c cs. Short c.after) r.rule.rest

-- The table is within the limits of the specification, "Numbers".
pub record Limited (M : Table) : Type 0 where
  pub made : WellMade M
  pub some_symbol : 1 ≤ length M.arities
  pub symbols : length M.arities ≤ symbols_most
  pub arities : AtMost arity_most M.arities
  pub states : M.states ≤ states_most
  pub before : Short M.before
  pub after : Short M.after
  pub rows : length M.rows ≤ rows_most
  pub short : Every ShortRow M.rows
  pub text : length (write_table M) ≤ text_most
