-- Finding a rule without letters for whose children something is kept: the children of a rule, and the rules of a state, one by one.
use mathlib.Core.Path.{◌≡◌, subst}
use mathlib.Core.List.{List, [], ◌∷◌}
use Prim.Native.Nat.{ℕ, zero, suc, ◌+◌, ◌≤◌, ◌<◌}
use native.Mathlib.Decide.{ℕ_discrete}
use native.Mathlib.Omega.{arith}
use lib.ListN.{length, get_or}
use Rattle.machine.specs.Machine.{Child, Row, Table}
use Rattle.machine.proofs.Find.{index_row}
use Rattle.layout.specs.Leaves.{RowAt, RulesOf, state_no}
use Rattle.summary.specs.Codes.{untold}
use Rattle.summary.specs.declared.Summary.{Summary}
use Rattle.empty_words.specs.Blank.{AllBlank, BlankRule, BlankOf}

-- ---- a rule's children
-- Something is kept for each of the first n children.
abbrev pub FirstKept : List Summary → List Child → ℕ → Type 0
FirstKept xs cs n = (j : ℕ) → j < n → get_or xs (state_no cs j) untold ≡ untold → ⊥

-- Something is kept for all.
pub all_kept : (xs : List Summary) (cs : List Child) (n : ℕ) → length cs ≤ n → FirstKept xs cs n → AllBlank xs cs
unfolding state_no
all_kept xs [] n l h = tt
all_kept xs (c ∷ cs) zero l h = absurd (omega arith)
all_kept xs (c ∷ cs) (suc n) l h = (h 0 (omega arith), all_kept xs cs n (omega arith) (λ j k. h (suc j) (omega arith)))

-- Nothing is kept for one.
pub one_lacks : (xs : List Summary) (cs : List Child) (j : ℕ) → j < length cs → get_or xs (state_no cs j) untold ≡ untold → AllBlank xs cs → ⊥
unfolding state_no
one_lacks xs [] j l z a = omega arith
one_lacks xs (c ∷ cs) zero l z a = a.0 z
one_lacks xs (c ∷ cs) (suc j) l z a = one_lacks xs cs j (omega arith) z a.1

-- ---- the rules of a state
module _ (M : Table) (xs : List Summary) (from : ℕ) where
  -- No rule with a number from `from` on and before i is such a rule.
  abbrev pub NoneBefore : ℕ → Type 0
  NoneBefore i = (j : ℕ) (row : Row) → RowAt M j row → from ≤ j → j < i → BlankRule xs row.rule → ⊥

  -- The rule with number i is not either.
  pub none_more : (i : ℕ) → NoneBefore i → ((row : Row) → RowAt M i row → BlankRule xs row.rule → ⊥) → NoneBefore (i + 1)
  none_more i h n j row e a b = elim (ℕ_discrete j i) [ yes d ↦ n row (subst (λ k. RowAt M k row) d e) | no d ↦ h j row e a (omega arith) ]

  module _ {q to : ℕ} (R : RulesOf M q from to) where
    -- The rule with number i is such a rule of the state.
    pub one_found : (i : ℕ) → from ≤ i → i < to → ((row : Row) → RowAt M i row → BlankRule xs row.rule) → BlankOf M xs q
    one_found i a b h =
        let r = index_row M.rows i (omega (arith, R.few)) in
        record { number = i; row = r.0; there = r.1; state = (R.exactly i r.0 r.1).0 (a, b); blank = h r.0 r.1 }

    -- None of the state's rules is.
    pub none_found : (i : ℕ) → to ≤ i → NoneBefore i → BlankOf M xs q → ⊥
    none_found i l h b =
        let w = (R.exactly b.number b.row b.there).1 b.state in
        h b.number b.row b.there w.0 (omega (arith, w.1)) b.blank
