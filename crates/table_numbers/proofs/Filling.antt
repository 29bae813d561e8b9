-- The numbers of a table, part by part: its head, its states' first rules, its rows, clear places, what is kept for states and symbols.
use mathlib.Core.Path.{◌≡◌, ap, ap₂, ◌∙◌}
use mathlib.Core.List.{List, ◌++◌}
use Prim.Native.Nat.{ℕ, ◌+◌, ◌*◌, ◌/◌, ◌%◌, ◌<◌, ◌≤◌}
use native.Mathlib.Omega.{arith}
use native.Mathlib.Decide.{dec_lt}
use lib.ListN.{length, get_or, drop}
use Rattle.machine.specs.Machine.{Table}
use Rattle.layout.specs.Layout.{entry_in, rows_before, HeadIn, Firsts, Listed, Grid}
use Rattle.head_frames.specs.declared.Head.{Head}
use Rattle.head_frames.specs.Staged.{blank, head_of}
use Rattle.table_numbers.specs.Storing.{Beyond}
use Rattle.table_numbers.specs.Storing.{head_numbers, NumbersPut, RulesNoted, entries_from, Filled}
use Rattle.table_numbers.proofs.Puts.{put_front}
use Rattle.table_numbers.proofs.RuleNumbers.{row_no}
use Rattle.head_frames.specs.declared.Note.{Note}

-- In the two places behind the head stands 0.
head_blank : (h : Head) (k : ℕ) → 6 ≤ k → k < 8 → get_or (head_numbers h) k 0 ≡ 0
head_blank h k l m = go (dec_lt k 7)
  where
    go : Dec (k < 7) → get_or (head_numbers h) k 0 ≡ 0
    go (yes d) = let e : k ≡ 6 = omega arith in ap (λ j. get_or (head_numbers h) j 0) e
    go (no d) = let e : k ≡ 7 = omega arith in ap (λ j. get_or (head_numbers h) j 0) e

module _ {M : Table} {R : List Note} {h : Head} (I : List ℕ) {I₁ I₂ I₃ I₄ I₅ : List ℕ}
    (long : length I ≡ 4688) (few : h.states ≤ 64) (many : h.rules ≤ 512) (is : h ≡ head_of M) (rules : RulesNoted R h.rules M)
    (front : I₁ ≡ head_numbers h ++ drop 8 I)
    (firsts : NumbersPut (λ q. rows_before q M.rows) 8 (h.states + 1) I₁ I₂)
    (rows : NumbersPut (λ i. (get_or R i blank).row) 80 h.rules I₂ I₃)
    (clear : NumbersPut (λ k. 0) 592 (h.states * 64) I₃ I₄)
    (entries : NumbersPut (entries_from M 0) 592 (M.states * 64) I₄ I₅) where
  -- The head is put in front.
  head : NumbersPut (λ k. get_or (head_numbers h) k 0) 0 8 I I₁
  head = put_front (head_numbers h) I I₁ (omega arith) front

  -- The table's counts are the head's.
  states_of_lem : h.states ≡ M.states
  states_of_lem = ap (λ x. x.states) is

  count_of : h.rules ≡ length M.rows
  count_of = ap (λ x. x.rules) is

  -- What is kept for states and symbols stands behind all else.
  before_grid : (k : ℕ) → k < 592 → get_or I₅ k 0 ≡ get_or I₃ k 0
  before_grid k l = entries.before k l ∙ clear.before k l

  -- The head and the two places behind it stand before all else.
  front_there : (k : ℕ) → k < 8 → get_or I₅ k 0 ≡ get_or (head_numbers h) k 0
  front_there k l =
      let none : k ≡ 0 + k = omega arith in
      before_grid k (omega arith) ∙ rows.before k (omega arith) ∙ firsts.before k l ∙ ap (λ j. get_or I₁ j 0) none ∙ head.here k l

  -- The head is the table's.
  head_there : HeadIn I₅ M
  head_there = record {
    symbols = front_there 0 (omega arith) ∙ ap (λ x. x.symbols) is;
    states = front_there 1 (omega arith) ∙ ap (λ x. x.states) is;
    start = front_there 2 (omega arith) ∙ ap (λ x. x.start) is;
    rules = front_there 3 (omega arith) ∙ ap (λ x. x.rules) is;
    before = front_there 4 (omega arith) ∙ ap (λ x. x.before) is;
    after = front_there 5 (omega arith) ∙ ap (λ x. x.after) is;
  }

  -- Each state's first rule is there.
  firsts_there : Firsts I₅ M
  firsts_there q l =
      let inside : q < h.states + 1 = omega (arith, states_of_lem) in
      before_grid (8 + q) (omega arith) ∙ rows.before (8 + q) (omega arith) ∙ firsts.here q inside

  -- Each row's number is there.
  rows_there : Listed I₅ M
  rows_there i l =
      let inside : i < h.rules = omega (arith, count_of) in
      before_grid (80 + i) (omega arith) ∙ rows.here i inside ∙ row_no rules i inside

  -- What is kept for each state and symbol is there.
  grid_there : Grid I₅ M
  grid_there q f hq hf =
      let k : ℕ = q * 64 + f in
      let state : k / 64 ≡ q = omega arith in
      let symbol : k % 64 ≡ f = omega arith in
      entries.here k (omega arith) ∙ ap₂ (λ x y. entry_in 0 M.rows x y) state symbol

  -- Behind the states' first rules the numbers are as they were before these were put, and behind the rows too.
  behind_firsts : (k : ℕ) → 8 + h.states < k → get_or I₂ k 0 ≡ get_or I k 0
  behind_firsts k l = firsts.behind k (omega arith) ∙ head.behind k (omega arith)

  behind_rows : (k : ℕ) → 80 + h.rules ≤ k → get_or I₃ k 0 ≡ get_or I k 0
  behind_rows k l = rows.behind k l ∙ behind_firsts k (omega arith)

  -- What the table does not use is as it was.
  beyond_there : Beyond I I₅ M
  beyond_there = record {
    blank = λ k l m. front_there k m ∙ head_blank h k l m;
    firsts = λ k l m. before_grid k (omega arith) ∙ rows.before k m ∙ behind_firsts k (omega (arith, states_of_lem));
    rules = λ k l m. before_grid k m ∙ behind_rows k (omega (arith, count_of));
    grid = λ k l. entries.behind k l ∙ clear.behind k (omega (arith, states_of_lem)) ∙ behind_rows k (omega arith);
  }

  -- All of it is the table's.
  pub filled : Filled I I₅ M
  filled = record {
    long = entries.long ∙ clear.long ∙ rows.long ∙ firsts.long ∙ head.long;
    head = head_there;
    firsts = firsts_there;
    listed = rows_there;
    grid = grid_there;
    beyond = beyond_there;
  }
