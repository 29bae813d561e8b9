-- States to whose left no word can be pushed: no rule is at fault where all are such states.
use mathlib.Core.Path.{◌≡◌, refl, sym, ap, ◌∙◌}
use mathlib.Core.Bool.{true, false, not, ◌&&◌}
use mathlib.Core.List.{List, [], ◌∷◌}
use mathlib.Core.Option.{Option, none, some}
use Prim.Native.Nat.{ℕ, zero, suc}
use Rattle.machine.specs.Machine.{Child, Row}
use Rattle.end_laws.specs.Ends.{Ends, free}
use Rattle.end_laws.specs.Companion.{least, free_row}
use Rattle.summary.specs.Codes.{Firm}

module _ (k : ℕ → Ends) (f : (q : ℕ) → Firm (k q)) where
  -- No child of a rule is at fault.
  free_rest : (cs : List Child) → free k cs ≡ true
  free_rest [] = refl
  free_rest (c ∷ cs) = ap (λ t. not t && free k cs) (f c.state c.after) ∙ free_rest cs

  -- No row is.
  free_row_lem : (o : Option Row) → free_row k o ≡ true
  free_row_lem none = refl
  free_row_lem (some row) = free_rest row.rule.rest

  -- None is found.
  pub free_rows : (rows : ℕ → Option Row) (n i : ℕ) → none ≡ least (λ j. free_row k (rows j)) n i
  unfolding least
  free_rows rows zero i = refl
  free_rows rows (suc n) i = free_rows rows n (suc i) ∙ sym
      (ap (λ t. elim t as (λ x. Option ℕ) [ true ↦ least (λ j. free_row k (rows j)) n (suc i) | false ↦ some i ]) (free_row_lem (rows i)))
