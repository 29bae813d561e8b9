-- What the functions that fill an opened table's numbers leave there. Definitions only.
use Rattle.std.specs.Prelude.{◌≡◌, List, [], ◌∷◌, ℕ, ◌+◌, ◌*◌, ◌/◌, ◌%◌, ◌<◌, ◌≤◌, length, get_or, drop}
use Rattle.machine.specs.Machine.{Table}
use Rattle.text.specs.Limits.{symbols_most}
use Rattle.text.specs.Writing.{Limited}
use Rattle.layout.specs.Layout.{firsts_from, rules_from, grid_from, entry_in, rows_before, HeadIn, Firsts, Listed, Grid}
use Rattle.head_frames.specs.declared.Head.{Head}
use Rattle.head_frames.specs.Staged.{Noted}
use Rattle.head_frames.specs.declared.Note.{Note}

-- The head of the numbers, and 0 in the two places behind it.
abbrev pub head_numbers : Head → List ℕ
head_numbers h = h.symbols ∷ h.states ∷ h.start ∷ h.rules ∷ h.before ∷ h.after ∷ 0 ∷ 0 ∷ []

-- The n numbers of I' from place a on are those of f, and all others are as in I.
pub record NumbersPut (f : ℕ → ℕ) (a n : ℕ) (I I' : List ℕ) : Type 0 where
  pub long : length I' ≡ length I
  pub here : (i : ℕ) → i < n → get_or I' (a + i) 0 ≡ f i
  pub before : (k : ℕ) → k < a → get_or I' k 0 ≡ get_or I k 0
  pub behind : (k : ℕ) → a + n ≤ k → get_or I' k 0 ≡ get_or I k 0

-- The list R begins with what is noted of each of the n rules of the limited table M.
pub record RulesNoted (R : List Note) (n : ℕ) (M : Table) : Type 0 where
  pub limited : Limited M
  pub count : n ≡ length M.rows
  pub noted : Noted R M

-- The rules from i on and before j are those of states below q, and none behind j is.
pub record RulesPassed (M : Table) (q i j : ℕ) : Type 0 where
  pub below : (p : ℕ) → q ≤ p → i + rows_before p (drop i M.rows) ≡ j + rows_before p (drop j M.rows)
  pub none : rows_before q (drop j M.rows) ≡ 0

-- What is kept for the state and the symbol of each place k of the grid, of the rows from number i on.
abbrev pub entries_from : Table → ℕ → ℕ → ℕ
entries_from M i k = entry_in i (drop i M.rows) (k / symbols_most) (k % symbols_most)

-- The numbers I' of the opened table M have 0 in the two places behind the head, and each number that M does not use is as it was in I.
pub record Beyond (I I' : List ℕ) (M : Table) : Type 0 where
  pub blank : (k : ℕ) → 6 ≤ k → k < firsts_from → get_or I' k 0 ≡ 0
  pub firsts : (k : ℕ) → firsts_from + M.states < k → k < rules_from → get_or I' k 0 ≡ get_or I k 0
  pub rules : (k : ℕ) → rules_from + length M.rows ≤ k → k < grid_from → get_or I' k 0 ≡ get_or I k 0
  pub grid : (k : ℕ) → grid_from + M.states * symbols_most ≤ k → get_or I' k 0 ≡ get_or I k 0

-- The numbers I' are those of the table M, and what M does not use is as it was in I.
pub record Filled (I I' : List ℕ) (M : Table) : Type 0 where
  pub long : length I' ≡ length I
  pub head : HeadIn I' M
  pub firsts : Firsts I' M
  pub listed : Listed I' M
  pub grid : Grid I' M
  pub beyond : Beyond I I' M
