-- The first rule of each state, where rows rise: the rows of states below it are those before it.
use mathlib.Core.Path.{◌≡◌, refl, ap, subst, ◌∙◌}
use mathlib.Core.Bool.{true, false}
use mathlib.Core.List.{List, [], ◌∷◌}
use mathlib.Core.Logic.{⊎_elim}
use Prim.Native.Nat.{ℕ, zero, suc, ◌+◌, ◌/◌, ◌%◌, ◌<◌, ◌≤◌}
use native.Mathlib.Numerals.{add-one}
use native.Mathlib.Omega.{arith}
use borrow.Author.Tests.{lt-ltb, le-ltb}
use lib.ListN.{length, get_or, set, drop, drop_of_length-le}
use Rattle.machine.specs.Machine.{Row, Table, Rising}
use Rattle.layout.specs.Layout.{rows_before}
use Rattle.table_numbers.specs.Storing.{NumbersPut, RulesNoted, RulesPassed}
use Rattle.table_numbers.proofs.Puts.{put_none, put_more}
use Rattle.table_numbers.proofs.RuleNumbers.{rule_no}
use Rattle.head_frames.specs.Staged.{blank}
use Rattle.head_frames.specs.declared.Note.{Note}

-- A first row of a state below p is one of them.
before_one : (p : ℕ) (r : Row) (rows : List Row) → r.state < p → rows_before p (r ∷ rows) ≡ suc (rows_before p rows)
unfolding rows_before
before_one p r rows h = ap (λ b. elim b as (λ c. ℕ) [ true ↦ suc (rows_before p rows) | false ↦ rows_before p rows ]) (lt-ltb r.state p h)

-- A first row of another state is not.
before_other : (p : ℕ) (r : Row) (rows : List Row) → p ≤ r.state → rows_before p (r ∷ rows) ≡ rows_before p rows
unfolding rows_before
before_other p r rows h = ap (λ b. elim b as (λ c. ℕ) [ true ↦ suc (rows_before p rows) | false ↦ rows_before p rows ]) (le-ltb r.state p h)

-- No row, none of them.
before_none : (p : ℕ) → rows_before p [] ≡ 0
unfolding rows_before
before_none p = refl

-- Of rows that rise from a state that is not below p none is.
none_below : (p : ℕ) (r : Row) (rows : List Row) → Rising (r ∷ rows) → p ≤ r.state → rows_before p (r ∷ rows) ≡ 0
none_below p r [] h k = before_other p r [] k ∙ before_none p
none_below p r (s ∷ rows) h k =
    before_other p r (s ∷ rows) k ∙ none_below p s rows h.1 (⊎_elim (λ (l : r.state < s.state). omega arith) (λ e. omega (arith, e.0)) h.0)

-- Rows that rise do so without the first of them.
rising_rest : (r : Row) (rows : List Row) → Rising (r ∷ rows) → Rising rows
rising_rest r [] h = tt
rising_rest r (s ∷ rows) h = h.1

-- They do so from each place on.
rising_from : (rows : List Row) (i : ℕ) → Rising rows → Rising (drop i rows)
rising_from rows zero h = h
rising_from [] (suc i) h = tt
rising_from (r ∷ rows) (suc i) h = rising_from rows i (rising_rest r rows h)

module _ {R : List Note} {n : ℕ} {M : Table} (rules : RulesNoted R n M) (q i : ℕ) where
  -- Behind the last rule is none.
  pub passed_all : n ≤ i → rows_before q (drop i M.rows) ≡ 0
  passed_all h = let l : length M.rows ≤ i = omega (arith, rules.count) in ap (rows_before q) (drop_of_length-le M.rows l) ∙ before_none q

  -- From a rule on whose state is not below q there is none.
  pub passed_to : i < n → q ≤ (get_or R i blank).row / 8388608 % 64 → rows_before q (drop i M.rows) ≡ 0
  passed_to h k =
      let m = rule_no rules i h in
      let rise : Rising (m.row ∷ drop (suc i) M.rows) = subst Rising m.rest (rising_from M.rows i rules.limited.made.rising) in
      ap (rows_before q) m.rest ∙ none_below q m.row (drop (suc i) M.rows) rise (omega (arith, m.state))

  -- A rule whose state is below q is one.
  pub passed_one : i < n → (get_or R i blank).row / 8388608 % 64 < q → (p : ℕ) → q ≤ p
      → i + rows_before p (drop i M.rows) ≡ i + 1 + rows_before p (drop (i + 1) M.rows)
  passed_one h k p l =
      let m = rule_no rules i h in
      let rest : List Row = drop (suc i) M.rows in
      let low : m.row.state < p = omega (arith, m.state) in
      let one : rows_before p (drop i M.rows) ≡ suc (rows_before p rest) = ap (rows_before p) m.rest ∙ before_one p m.row rest low in
      let next : rows_before p (drop (i + 1) M.rows) ≡ rows_before p rest = ap (λ j. rows_before p (drop j M.rows)) (add-one i) in
      omega arith

-- The firsts of the states before q are put, and of states from q on the rules before number i are passed.
pub record FirstsSo (M : Table) (I I' : List ℕ) (q i : ℕ) : Type 0 where
  pub put : NumbersPut (λ p. rows_before p M.rows) 8 q I I'
  pub passed : (p : ℕ) → q ≤ p → rows_before p M.rows ≡ i + rows_before p (drop i M.rows)

-- None is put yet.
pub firsts_none : (M : Table) (I : List ℕ) → FirstsSo M I I 0 0
firsts_none M I = record { put = put_none (λ p. rows_before p M.rows) 8 I; passed = λ p h. omega arith }

-- One first more.
pub firsts_more : {M : Table} {I I' : List ℕ} {q i : ℕ} (j : ℕ) → FirstsSo M I I' q i → 8 + q < length I → RulesPassed M q i j
    → FirstsSo M I (set I' (8 + q) j) (q + 1) j
firsts_more {M} {I} {I'} {q} {i} j s inside a =
    record {
      put = put_more s.put j inside (omega (arith, s.passed q (omega arith), a.below q (omega arith), a.none));
      passed = λ p h. omega (arith, s.passed p (omega arith), a.below p (omega arith));
    }
