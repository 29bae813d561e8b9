-- For small tables written out: their rows, their states one by one, states with one word, and verdicts where each state has the empty word.
use mathlib.Core.Path.{◌≡◌, refl, sym, ap, ap₂, ◌∙◌}
use mathlib.Core.List.{List, [], ◌++◌, append-nil}
use mathlib.Core.Logic.{inl, inr}
use mathlib.Core.Option.{some}
use Prim.Native.Nat.{ℕ, zero, suc, ◌<◌}
use native.Mathlib.Omega.{arith}
use lib.ListN.{length, drop, get_elem?}
use Rattle.words.specs.Word.{Word, ◌⊕◌, Holds, NoPrefix, NoSuffix}
use Rattle.words.proofs.Ends.{empty_no_prefix, empty_no_suffix}
use Rattle.machine.specs.Machine.{Tree, node, Child, Row, Table, word, words, Every}
use Rattle.machine.specs.Earliest.{L, Reached, HasWord, LeftStart, LeftRule}
use Rattle.machine.specs.Verdict.{Verdict, earliest, late, conditions, JudgedBy, Judged}
use Rattle.machine.proofs.Find.{every_at, index_below, find_holds}
use Rattle.machine.proofs.Word.{word_parts, words_nil}

-- A row by its state, its symbol, its first word and the rest of its rule.
abbrev pub row : ℕ → ℕ → Word → List Child → Row
row q f u cs = record { state = q; symbol = f; rule = record { first = u; rest = cs } }

-- A child by its state and the word after it.
abbrev pub to : ℕ → Word → Child
to q u = record { state = q; after = u }

-- P holds of each number below n, told one by one.
abbrev pub OneByOne : (ℕ → Type 0) → ℕ → Type 0
OneByOne P zero = Unit {0}
OneByOne P (suc n) = P 0 × OneByOne (λ q. P (suc q)) n

-- What is told of each number below n one by one holds of each.
pub firsts : (P : ℕ → Type 0) (n : ℕ) → OneByOne P n → (q : ℕ) → q < n → P q
firsts P zero h q l = absurd (omega arith)
firsts P (suc n) h zero l = h.0
firsts P (suc n) h (suc q) l = firsts (λ r. P (suc r)) n h.1 q (omega arith)

-- The row has no children and writes u, if it is for state q.
abbrev Writes : ℕ → Word → Row → Type 0
Writes q u r = r.state ≡ q → (r.rule.first ≡ u) × (r.rule.rest ≡ [])

-- A state whose rules are all without children and write u has no other word.
pub one_word : (M : Table) (q : ℕ) (u : Word) → Every (Writes q u) M.rows → (t : Tree) (w : Word) → word M q t ≡ some w → w ≡ u
one_word M q u h (node f ts) w e =
    let a = word_parts M q f ts w e in
    let k = find_holds (Writes q u) M.rows h q f a.0 a.2 refl in
    let v = words_nil M ts a.1 (ap (words M ts) (sym k.1) ∙ a.3) in
    a.4 ∙ ap₂ ◌++◌ k.0 v.1 ∙ append-nil u

-- ---- verdicts where each state has the empty word
-- Each state is reached and has the empty word.
pub record BlankStates (M : Table) : Type 0 where
  pub reached : (q : ℕ) → q < M.states → Reached M q
  pub blank : (q : ℕ) → q < M.states → Holds (L M q) []

module _ (M : Table) (b : BlankStates M) where
  -- Then 13 to 16 are not given, and the verdict is that of the last two conditions.
  pub blank_states_judged : (v : Verdict) → JudgedBy (drop 4 (conditions M)) v → Judged M v
  blank_states_judged v j = inr (b.reached, inr (some_word, inr (no_prefix, inr (no_suffix, j))))
    where
      some_word : (q : ℕ) → q < M.states → HasWord M q
      some_word q l = ([], b.blank q l)

      no_prefix : (q : ℕ) → q < M.states → NoPrefix (L M q)
      no_prefix q l = empty_no_prefix (L M q) (b.blank q l)

      no_suffix : (q : ℕ) → q < M.states → NoSuffix (L M q)
      no_suffix q l = empty_no_suffix (L M q) (b.blank q l)

  module _ (inside : M.start < M.states) (nothing : M.after ≡ []) where
    -- With nothing after the initial state, E2 is met there.
    blank_states_start : LeftStart M
    blank_states_start =
        let h = b.blank M.start inside in
        empty_no_prefix (λ t. L M M.start t ⊕ some M.after) (h.0, rw (h.1, nothing))

    -- The table is earliest if its rules meet E2.
    pub blank_states_earliest : Every (λ r. LeftRule M r.rule) M.rows → Judged M earliest
    blank_states_earliest h = blank_states_judged earliest (inr (λ p l. blank_states_start, inr (every_met, refl)))
      where
        every_met : (i : ℕ) → i < length M.rows → (r : Row) → get_elem? M.rows i ≡ some r → LeftRule M r.rule
        every_met i l = every_at (λ r. LeftRule M r.rule) M.rows h i

    -- It is judged 18 for its first rule if that does not.
    pub blank_states_late : (r : Row) → get_elem? M.rows 0 ≡ some r → (LeftRule M r.rule → ⊥) → Judged M (late 18 0)
    blank_states_late r e n =
        blank_states_judged (late 18 0)
        (inr (
          λ p l. blank_states_start,
          inl (0, record { place = index_below M.rows 0 r e; fails = λ h. n (h r e); least = λ i l. absurd (omega arith) }, refl),
        ))
