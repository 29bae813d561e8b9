-- Frames, told apart by their first byte: what a frame makes of the table read so far. Definitions only.
use Rattle.std.specs.Prelude.{Bool, true, false, ◌&&◌, ◌||◌, List, [], ◌∷◌, ◌++◌, ℕ, eqb, ltb, length, get_or}
use Rattle.machine.specs.Machine.{Row, Table}
use Rattle.text.specs.Limits.{symbols_most, arity_most, states_most, rows_most}
use Rattle.text.specs.Fields.{Parsed, got, fault, Field, ◌>>=◌, pure, check, within, below, text, children}

-- How far a text has been read: its symbols, or the table with the rules so far, or all of it.
pub data Stage : Type 0 where
  symbols : List ℕ → Stage
  rules : Table → Stage
  ended : Table → Stage

-- The next stage, or a number of no.
pub data Step : Type 0 where
  next : Stage → Step
  wrong : ℕ → Step

-- A whole frame's step: 5 for bytes left over.
abbrev pub whole : Parsed Stage → Step
whole (got s []) = next s
whole (got s (b ∷ bs)) = wrong 5
whole (fault n) = wrong n

-- State q and symbol f stand behind row r: by state and then symbol.
abbrev pub behind_row : Row → ℕ → ℕ → Bool
behind_row r q f = ltb r.state q || (eqb r.state q && ltb r.symbol f)

-- State q and symbol f rise over the rows so far: they stand behind the last of them.
abbrev pub rises : List Row → ℕ → ℕ → Bool
rises [] q f = true
rises (r ∷ []) q f = behind_row r q f
rises (r ∷ s ∷ rs) q f = rises (s ∷ rs) q f

-- The table with one row more.
abbrev pub with_row : Table → Row → Table
with_row M r = record { arities = M.arities; states = M.states; before = M.before; start = M.start; after = M.after; rows = M.rows ++ r ∷ [] }

-- Frame 01: arity.
unfoldable pub symbol_frame : List ℕ → Field Stage
symbol_frame arities = do
  t ← check (ltb (length arities) symbols_most) 4
  a ← within 0 arity_most
  pure (symbols (arities ++ a ∷ []))

-- Frame 02: number of states, word u0, state, word u1.
unfoldable pub start_frame : List ℕ → Field Stage
start_frame arities = do
  n ← within 1 states_most
  u ← text
  q ← below n
  v ← text
  pure (rules (record { arities = arities; states = n; before = u; start = q; after = v; rows = [] }))

-- Frame 03: state, symbol, word u0, then for each child its state and a word; 3 for a rule that doesn't rise, right after its symbol.
unfoldable pub rule_frame : Table → Field Stage
rule_frame M = do
  t ← check (ltb (length M.rows) rows_most) 4
  q ← below M.states
  f ← below (length M.arities)
  s ← check (rises M.rows q f) 3
  u ← text
  cs ← children M.states (get_or M.arities f 0)
  pure (rules (with_row M (record { state = q; symbol = f; rule = record { first = u; rest = cs } })))

-- Frame 04: nothing more; the end.
abbrev pub end_frame : Table → Field Stage
end_frame M = pure (ended M)

-- The first of these whose kind it is; 3 for a kind that is unknown or not due here.
abbrev pub by_kind : ℕ → ℕ → Step → Step → Step
by_kind kind k a other = elim (eqb kind k) [ true ↦ a | false ↦ other ]

-- One or more 01, one 02, any number of 03, one 04, nothing after. A frame of no bytes is an empty line: 2.
unfoldable pub step : Stage → List ℕ → Step
step s [] = wrong 2
step (symbols []) (kind ∷ bs) = by_kind kind 1 (whole (symbol_frame [] bs)) (wrong 3)
step (symbols (a ∷ more)) (kind ∷ bs) = by_kind kind 1 (whole (symbol_frame (a ∷ more) bs)) (by_kind kind 2 (whole (start_frame (a ∷ more) bs)) (wrong 3))
step (rules M) (kind ∷ bs) = by_kind kind 3 (whole (rule_frame M bs)) (by_kind kind 4 (whole (end_frame M bs)) (wrong 3))
step (ended M) (kind ∷ bs) = wrong 3
