-- The rules by number, read with no test.
use mathlib.Core.Path.{◌≡◌, sym, ap, subst, ◌∙◌}
use mathlib.Core.List.{List}
use Prim.Native.Nat.{ℕ, ◌+◌, ◌*◌, ◌/◌, ◌%◌, ◌≤◌}
use native.Mathlib.Omega.{arith}
use lib.ListN.{get_or}
use Rattle.machine.specs.Machine.{Row, Table}
use Rattle.text.specs.Limits.{rows_most, symbols_most}
use Rattle.layout.specs.Layout.{firsts_from, rules_from, grid_from, rows_before, Opened}
use Rattle.layout.specs.Leaves.{RowAt, Encodes, Spot}
use Rattle.rule_leaves.proofs.Numbered.{listed_key, listed_place, entry_at, row_low, row_modest, row_fits, row_symbol_small}
use Rattle.rule_leaves.proofs.Ranges.{before_most}
use Rattle.rule_leaves.proofs.Places.{rule_spot, row_spot}

module _ {F I : List ℕ} {M : Table} (o : Opened F I M) where
  module _ (i : ℕ) (r : Row) (e : RowAt M i r) where
    -- What is kept for a rule's state and symbol is found by its number.
    pub kept_listed : (k x : ℕ) → k ≡ get_or I (rules_from + i) 0 / 131072 % 4096 → x ≡ get_or I (grid_from + k) 0 → Encodes x i r.rule
    kept_listed k x ek ex =
        let key : k ≡ r.state * symbols_most + r.symbol = ek ∙ listed_key o i r e in
        record {
          is =
              ex ∙ ap (λ (j : ℕ). get_or I (grid_from + j) 0) key ∙ o.grid r.state r.symbol (row_fits o i r e).state (row_symbol_small o i r e)
              ∙ entry_at o.limited i r e;
          low = row_low o.limited i r e;
          modest = row_modest o.limited i r e;
        }

    -- So is the spot of its first word.
    pub spot_listed : (p : ℕ) → p ≡ get_or I (rules_from + i) 0 % 16384 → Spot F r.rule.first r.rule.rest p
    spot_listed p ep =
        subst (λ (k : ℕ). Spot F r.rule.first r.rule.rest k) (sym (ep ∙ listed_place o i r e)) (rule_spot F _ r.rule (row_spot o i r e))

  -- The number of a state's first rule is kept, and no table has more rules than it may.
  pub first_listed : (q x : ℕ) → x ≡ get_or I (firsts_from + q) 0 → q ≤ M.states → (x ≡ rows_before q M.rows) × (x ≤ rows_most)
  first_listed q x ex h =
      let same = ex ∙ o.firsts q h in
      (same, omega (arith, same, before_most q M.rows, o.limited.rows))
