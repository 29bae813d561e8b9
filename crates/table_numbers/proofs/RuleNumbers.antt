-- What is noted of each rule: which row it tells.
use mathlib.Core.Path.{◌≡◌, refl, sym, ap, ◌∙◌}
use mathlib.Core.List.{List, [], ◌∷◌}
use Prim.Native.Nat.{ℕ, zero, suc, ◌+◌, ◌*◌, ◌/◌, ◌%◌, ◌^◌, ◌<◌}
use native.Mathlib.Omega.{arith}
use lib.ListN.{length, get_or, drop, length-append}
use lib.Seq.{get_or-take}
use Rattle.machine.specs.Machine.{Row, Table, Every, RowFits}
use Rattle.text.specs.Writing.{row_frame, Limited}
use Rattle.layout.specs.Layout.{row_frames, head_frames, frames_of, entry_of, row_numbers}
use Rattle.layout.proofs.Fit.{frames_fit}
use Rattle.layout.proofs.Rows.{row_long}
use Rattle.head_frames.specs.Staged.{blank, note_of, kept}
use Rattle.table_numbers.specs.Storing.{RulesNoted}
use Rattle.head_frames.specs.declared.Note.{Note}

-- Row i of rows of which P holds, whose first has number j and whose frames stand from p on: where its rule's bytes stand, and its note among ks.
record RowKept (P : Row → Type 0) (ks : List Note) (j p : ℕ) (rows : List Row) (i : ℕ) : Type 0 where
  row : Row
  rest : drop i rows ≡ row ∷ drop (suc i) rows
  place : ℕ
  low : place < p + length (row_frames rows)
  note : get_or ks i blank ≡ note_of (j + i) place row
  holds : P row

-- Each row's note stands where its number says.
row_in : (P : Row → Type 0) (j p : ℕ) (rows : List Row) (i : ℕ) → Every P rows → i < length rows → RowKept P (kept j p rows) j p rows i
unfolding kept row_frames
row_in P j p [] i h l = absurd (omega arith)
row_in P j p (r ∷ rows) zero h l =
    let first : j ≡ j + 0 = omega arith in
    record {
      row = r;
      rest = refl;
      place = p + 3;
      low = omega (arith, length-append (row_frame r) (row_frames rows), row_long r);
      note = ap (λ k. note_of k (p + 3) r) first;
      holds = h.0;
    }
row_in P j p (r ∷ rows) (suc i) h l =
    let m = row_in P (suc j) (p + length (row_frame r)) rows i h.1 (omega arith) in
    let one : suc j + i ≡ j + suc i = omega arith in
    record {
      row = m.row;
      rest = m.rest;
      place = m.place;
      low = omega (arith, length-append (row_frame r) (row_frames rows), m.low);
      note = m.note ∙ ap (λ k. note_of k m.place m.row) one;
      holds = m.holds;
    }

-- Each note's number is the row's.
noted_numbers : (j p : ℕ) (rows : List Row) (i : ℕ) → (get_or (kept j p rows) i blank).row ≡ get_or (row_numbers p rows) i 0
unfolding kept row_numbers
noted_numbers j p [] i = refl
noted_numbers j p (r ∷ rows) zero = refl
noted_numbers j p (r ∷ rows) (suc i) = noted_numbers (suc j) (p + length (row_frame r)) rows i

-- What a row's number tells: its state, and the place of its state and symbol.
told_state : (p f q : ℕ) → p < 131072 → f < 64 → q < 64 → (p + 2 ^ 17 * f + 2 ^ 23 * q) / 8388608 % 64 ≡ q
told_state p f q hp hf hq = omega arith

told_key : (p f q : ℕ) → p < 131072 → f < 64 → q < 64 → (p + 2 ^ 17 * f + 2 ^ 23 * q) / 131072 % 4096 ≡ q * 64 + f
told_key p f q hp hf hq = omega arith

-- Rule number i of the table M: its row, and what its note in R tells.
pub record RuleNo (R : List Note) (M : Table) (i : ℕ) : Type 0 where
  pub row : Row
  pub rest : drop i M.rows ≡ row ∷ drop (suc i) M.rows
  pub state : (get_or R i blank).row / 8388608 % 64 ≡ row.state
  pub key : (get_or R i blank).row / 131072 % 4096 ≡ row.state * 64 + row.symbol
  pub entry : (get_or R i blank).entry ≡ entry_of i row.rule
  pub below : row.state < M.states
  pub small : row.symbol < 64

-- The rows' frames end before place 16,384.
rows_end : {M : Table} → Limited M → length (head_frames M) + length (row_frames M.rows) < 16384
unfolding frames_of
rows_end {M} l = omega (arith, simp length-append at (frames_fit l))

module _ {R : List Note} {n : ℕ} {M : Table} (rules : RulesNoted R n M) (i : ℕ) (inside : i < n) where
  -- A note of the rules is one of those that are kept.
  note_kept : get_or R i blank ≡ get_or (kept 0 (length (head_frames M)) M.rows) i blank
  note_kept = sym (get_or-take (length M.rows) R i blank (omega (arith, rules.count))) ∙ ap (λ l. get_or l i blank) rules.noted

  -- The rule's row and what its note tells.
  pub rule_no : RuleNo R M i
  rule_no =
      let m = row_in (RowFits M) 0 (length (head_frames M)) M.rows i rules.limited.made.rows (omega (arith, rules.count)) in
      let low : m.place < 131072 = omega (arith, m.low, rows_end rules.limited) in
      let small : m.row.symbol < 64 = omega (arith, m.holds.symbol, rules.limited.symbols) in
      let few : m.row.state < 64 = omega (arith, m.holds.state, rules.limited.states) in
      let none : 0 + i ≡ i = omega arith in
      let is = note_kept ∙ m.note in
      record {
        row = m.row;
        rest = m.rest;
        state = ap (λ x. x.row / 8388608 % 64) is ∙ told_state m.place m.row.symbol m.row.state low small few;
        key = ap (λ x. x.row / 131072 % 4096) is ∙ told_key m.place m.row.symbol m.row.state low small few;
        entry = ap (λ x. x.entry) is ∙ ap (λ k. entry_of k m.row.rule) none;
        below = m.holds.state;
        small = small;
      }

  -- Its note's number is the row's.
  pub row_no : (get_or R i blank).row ≡ get_or (row_numbers (length (head_frames M)) M.rows) i 0
  row_no = ap (λ x. x.row) note_kept ∙ noted_numbers 0 (length (head_frames M)) M.rows i
