-- The opened table: the decoded frames one after the other, and a list of numbers: the head, the rules by their numbers, and what
-- is kept for each state and symbol. Definitions only.
use Rattle.std.specs.Prelude.{◌≡◌, true, false, ◌&&◌, List, [], ◌∷◌, ◌++◌, ℕ, suc, ◌+◌, ◌*◌, ◌^◌, ◌<◌, ◌≤◌, eqb, ltb, length, get_or}
use Rattle.machine.specs.Machine.{Child, Rule, Row, Table}
use Rattle.text.specs.Limits.{symbols_most}
use Rattle.text.specs.Writing.{text_of, children_text, row_frame, initial_frame, Limited}

-- How many bytes and how many numbers are lent.
abbrev pub frames_size : ℕ
frames_size = 16448

abbrev pub numbers_size : ℕ
numbers_size = 4688

-- Where in the numbers the states' first rules stand, the rules, and what is kept for each state and symbol; the head stands before them.
abbrev pub firsts_from : ℕ
firsts_from = 8

abbrev pub rules_from : ℕ
rules_from = 80

abbrev pub grid_from : ℕ
grid_from = 592

-- The frames 01, two bytes each.
unfoldable pub symbol_frames : List ℕ → List ℕ
symbol_frames [] = []
symbol_frames (a ∷ more) = 1 ∷ a ∷ symbol_frames more

-- The frames 03.
unfoldable pub row_frames : List Row → List ℕ
row_frames [] = []
row_frames (r ∷ rs) = row_frame r ++ row_frames rs

-- The frames before the first rule.
unfoldable pub head_frames : Table → List ℕ
head_frames M = symbol_frames M.arities ++ initial_frame M

-- All frames of a table, one after the other.
unfoldable pub frames_of : Table → List ℕ
frames_of M = head_frames M ++ row_frames M.rows ++ 4 ∷ []

-- A rule's bytes in its frame: the word u0, then for each child its state and a word.
unfoldable pub rule_text : Rule → List ℕ
rule_text r = text_of r.first ++ children_text r.rest

-- How many letters the rest of a rule writes itself.
unfoldable pub rest_letters : List Child → ℕ
rest_letters [] = 0
rest_letters (c ∷ cs) = length c.after + rest_letters cs

-- How many letters a rule writes itself.
unfoldable pub rule_letters : Rule → ℕ
rule_letters r = length r.first + rest_letters r.rest

-- The state of the first child, 0 if there is none.
unfoldable pub first_state : List Child → ℕ
first_state [] = 0
first_state (c ∷ cs) = c.state

-- Behind n, states one after the other in one number, ten bits each, the last lowest.
unfoldable pub folded : ℕ → List Child → ℕ
folded n [] = n
folded n (c ∷ cs) = folded (n * 1024 + c.state) cs

-- The states of the children behind the first in one number, the last lowest.
unfoldable pub later_states : List Child → ℕ
later_states [] = 0
later_states (c ∷ cs) = folded 0 cs

-- The child states and the number of children, in one number: the first child's state from bit 21 on, the others' from bit 31 on, the number from bit 61 on.
unfoldable pub kids_packed : List Child → ℕ
kids_packed cs = 2 ^ 21 * first_state cs + (2 ^ 31 * later_states cs + 2 ^ 61 * length cs)

-- What is kept for the state and the symbol of rule number i: its letters, bit 8 to say that there is a rule, i from bit 9 on, its children.
unfoldable pub entry_of : ℕ → Rule → ℕ
entry_of i r = rule_letters r + 256 + 512 * i + kids_packed r.rest

-- What is kept for a state and a symbol, where the first of the rows has number i: 0 if there is no rule.
unfoldable pub entry_in : ℕ → List Row → ℕ → ℕ → ℕ
entry_in i [] q f = 0
entry_in i (r ∷ rs) q f = elim (eqb r.state q && eqb r.symbol f) [ true ↦ entry_of i r.rule | false ↦ entry_in (suc i) rs q f ]

-- What is kept of a row by its number, where its rule's bytes stand at p: p, its symbol from bit 17 on, its state from bit 23 on.
abbrev pub row_number : ℕ → Row → ℕ
row_number p r = p + 2 ^ 17 * r.symbol + 2 ^ 23 * r.state

-- The same for each row, where the rows' frames stand from p on. A rule's bytes stand behind kind, state and symbol.
unfoldable pub row_numbers : ℕ → List Row → List ℕ
row_numbers p [] = []
row_numbers p (r ∷ rs) = row_number (p + 3) r ∷ row_numbers (p + length (row_frame r)) rs

-- How many rows have a state below q: the number of the first rule of state q, if it has one.
unfoldable pub rows_before : ℕ → List Row → ℕ
rows_before q [] = 0
rows_before q (r ∷ rs) = elim (ltb r.state q) [ true ↦ suc (rows_before q rs) | false ↦ rows_before q rs ]

-- Where the words of the initial rule stand.
abbrev pub before_at : Table → ℕ
before_at M = 2 * length M.arities + 2

abbrev pub after_at : Table → ℕ
after_at M = 2 * length M.arities + 4 + length M.before

-- The head of the numbers I: the table's counts, its initial state, where the words of its initial rule stand.
pub record HeadIn (I : List ℕ) (M : Table) : Type 0 where
  pub symbols : get_or I 0 0 ≡ length M.arities
  pub states : get_or I 1 0 ≡ M.states
  pub start : get_or I 2 0 ≡ M.start
  pub rules : get_or I 3 0 ≡ length M.rows
  pub before : get_or I 4 0 ≡ before_at M
  pub after : get_or I 5 0 ≡ after_at M

-- The numbers hold the first rule of each state, and behind them the number of rules.
abbrev pub Firsts : List ℕ → Table → Type 0
Firsts I M = (q : ℕ) → q ≤ M.states → get_or I (firsts_from + q) 0 ≡ rows_before q M.rows

-- The numbers hold each row by its number.
abbrev pub Listed : List ℕ → Table → Type 0
Listed I M = (i : ℕ) → i < length M.rows → get_or I (rules_from + i) 0 ≡ get_or (row_numbers (length (head_frames M)) M.rows) i 0

-- The numbers hold what is kept for each state and symbol.
abbrev pub Grid : List ℕ → Table → Type 0
Grid I M = (q f : ℕ) → q < M.states → f < symbols_most → get_or I (grid_from + (q * symbols_most + f)) 0 ≡ entry_in 0 M.rows q f

-- What makes lent bytes F and numbers I the opened table M.
pub record Opened (F I : List ℕ) (M : Table) : Type 0 where
  pub limited : Limited M
  pub bytes : length F ≡ frames_size
  pub numbers : length I ≡ numbers_size
  pub behind : List ℕ
  pub frames : F ≡ frames_of M ++ behind
  pub head : HeadIn I M
  pub firsts : Firsts I M
  pub listed : Listed I M
  pub grid : Grid I M

-- P holds of every table that the bytes F and the numbers I mean.
abbrev pub Meant : List ℕ → List ℕ → (Table → Type 0) → Type 0
Meant F I P = (M : Table) → Opened F I M → P M

-- P holds of every table that the numbers I mean, with whatever bytes.
abbrev pub MeantBy : List ℕ → (Table → Type 0) → Type 0
MeantBy I P = (F : List ℕ) → Meant F I P
