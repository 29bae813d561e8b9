-- What is kept for states and symbols, from the last rule to the first.
use mathlib.Core.Path.{◌≡◌, refl, sym, ap, ap₂, ◌∙◌}
use mathlib.Core.Bool.{Bool, true, false, ◌&&◌}
use mathlib.Core.List.{List, [], ◌∷◌}
use Prim.Native.Nat.{ℕ, suc, ◌+◌, ◌*◌, ◌/◌, ◌%◌, ◌<◌, ◌≤◌}
use native.Mathlib.Omega.{arith}
use native.Mathlib.Numerals.{add-one}
use borrow.Author.Tests.{eqb-true, eq-eqb}
use lib.Dec.{eqb}
use lib.ListN.{length, get_or, set, drop, length-set, drop_of_length-le}
use lib.Seq.{get_or-set_same, get_or-set_other}
use Rattle.words.proofs.Tests.{both_hold}
use Rattle.machine.specs.Machine.{Row, Table}
use Rattle.layout.specs.Layout.{entry_of, entry_in}
use Rattle.table_numbers.specs.Storing.{NumbersPut, RulesNoted, entries_from}
use Rattle.table_numbers.proofs.RuleNumbers.{rule_no}
use Rattle.head_frames.specs.Staged.{blank}
use Rattle.head_frames.specs.declared.Note.{Note}

-- Row r is the one of state q and symbol f.
abbrev picks : Row → ℕ → ℕ → Bool
picks r q f = eqb r.state q && eqb r.symbol f

-- A first row that is the one of q and f has its rule kept there.
entry_here : (i : ℕ) (r : Row) (rows : List Row) (q f : ℕ) → picks r q f ≡ true → entry_in i (r ∷ rows) q f ≡ entry_of i r.rule
unfolding entry_in
entry_here i r rows q f e = ap (λ b. elim b as (λ c. ℕ) [ true ↦ entry_of i r.rule | false ↦ entry_in (suc i) rows q f ]) e

-- Behind another row the rows behind it decide.
entry_later : (i : ℕ) (r : Row) (rows : List Row) (q f : ℕ) → picks r q f ≡ false → entry_in i (r ∷ rows) q f ≡ entry_in (suc i) rows q f
unfolding entry_in
entry_later i r rows q f e = ap (λ b. elim b as (λ c. ℕ) [ true ↦ entry_of i r.rule | false ↦ entry_in (suc i) rows q f ]) e

-- Of no rows nothing is kept.
entry_none : (i q f : ℕ) → entry_in i [] q f ≡ 0
unfolding entry_in
entry_none i q f = refl

-- A row that is not the one of place k's state and symbol has another place.
other_place : (r : Row) (k : ℕ) → r.symbol < 64 → picks r (k / 64) (k % 64) ≡ false → k ≡ r.state * 64 + r.symbol → ⊥
other_place r k h e d =
    let s : r.state ≡ k / 64 = omega arith in
    let t : r.symbol ≡ k % 64 = omega arith in
    let z : ◌≡◌ {A = Bool} true false = sym (ap₂ ◌&&◌ (eq-eqb r.state (k / 64) s) (eq-eqb r.symbol (k % 64) t)) ∙ e in
    let w : ◌≡◌ {A = ℕ} 0 1 = cc in
    omega arith

-- A row that is has that place.
own_place : (r : Row) (k : ℕ) → picks r (k / 64) (k % 64) ≡ true → k ≡ r.state * 64 + r.symbol
own_place r k e =
    let d = both_hold (eqb r.state (k / 64)) (eqb r.symbol (k % 64)) e in
    omega (arith, eqb-true r.state (k / 64) d.0, eqb-true r.symbol (k % 64) d.1)

-- Behind the last rule nothing is kept, where all places are clear.
pub entries_none : {R : List Note} {n : ℕ} {M : Table} → RulesNoted R n M → (I : List ℕ) → ((k : ℕ) → k < M.states * 64 → get_or I (592 + k) 0 ≡ 0)
    → NumbersPut (entries_from M n) 592 (M.states * 64) I I
entries_none {R} {n} {M} rules I clear =
    let l : length M.rows ≤ n = omega (arith, rules.count) in
    record {
      long = refl;
      here = λ k h. clear k h ∙ sym (entry_none n (k / 64) (k % 64))
          ∙ ap (λ rows. entry_in n rows (k / 64) (k % 64)) (sym (drop_of_length-le M.rows l));
      before = λ k h. refl;
      behind = λ k h. refl;
    }

module _ {R : List Note} {n : ℕ} {M : Table} (rules : RulesNoted R n M) (i j : ℕ) (next : j ≡ i + 1) (inside : i < n) {I I' : List ℕ} (long : length I ≡ 4688)
    (p : NumbersPut (entries_from M j) 592 (M.states * 64) I I') (place entry : ℕ) (at : place ≡ (get_or R i blank).row / 131072 % 4096)
    (is : entry ≡ (get_or R i blank).entry) where
  -- The rules from number i on are the rule and those behind it.
  from_here : (k : ℕ) → entries_from M i k ≡ entry_in i ((rule_no rules i inside).row ∷ drop (suc i) M.rows) (k / 64) (k % 64)
  from_here k = ap (λ rows. entry_in i rows (k / 64) (k % 64)) (rule_no rules i inside).rest

  from_next : (k : ℕ) → entries_from M j k ≡ entry_in (suc i) (drop (suc i) M.rows) (k / 64) (k % 64)
  from_next k = ap (λ m. entry_in m (drop m M.rows) (k / 64) (k % 64)) (next ∙ add-one i)

  -- What is kept at each place is right behind the store.
  stored : (k : ℕ) → k < M.states * 64 → (b : Bool) → picks (rule_no rules i inside).row (k / 64) (k % 64) ≡ b
      → get_or (set I' (592 + place) entry) (592 + k) 0 ≡ entries_from M i k
  stored k h true e =
      let m = rule_no rules i inside in
      let d : 592 + k ≡ 592 + place = omega (arith, own_place m.row k e, m.key) in
      ap (λ m. get_or (set I' (592 + place) entry) m 0) d
      ∙ get_or-set_same I' (592 + place) entry 0 (omega (arith, p.long))
      ∙ is
      ∙ m.entry
      ∙ sym (from_here k ∙ entry_here i m.row (drop (suc i) M.rows) (k / 64) (k % 64) e)
  stored k h false e =
      let m = rule_no rules i inside in
      get_or-set_other I' (592 + place) (592 + k) entry 0 (λ d. other_place m.row k m.small e (omega (arith, m.key)))
      ∙ p.here k h
      ∙ from_next k
      ∙ sym (from_here k ∙ entry_later i m.row (drop (suc i) M.rows) (k / 64) (k % 64) e)

  -- The rule's place is one of the states'.
  place_inside : place < M.states * 64
  place_inside = let m = rule_no rules i inside in omega (arith, m.key, m.below, m.small)

  -- One rule more.
  pub entries_more : NumbersPut (entries_from M i) 592 (M.states * 64) I (set I' (592 + place) entry)
  entries_more = record {
    long = length-set I' (592 + place) entry ∙ p.long;
    here = λ k h. stored k h (picks (rule_no rules i inside).row (k / 64) (k % 64)) refl;
    before = λ k h. get_or-set_other I' (592 + place) k entry 0 (λ e. omega arith) ∙ p.before k h;
    behind = λ k h. get_or-set_other I' (592 + place) k entry 0 (λ e. omega (arith, place_inside)) ∙ p.behind k h;
  }
