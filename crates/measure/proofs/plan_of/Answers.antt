-- `plan_of` meets its contract: the rule's number is told, and by it the spot of its first word. Assumes nothing.
use mathlib.Core.Path.{◌≡◌, sym, subst, ◌∙◌}
use Prim.Native.Nat.{ℕ, ◌+◌, ◌*◌, ◌/◌, ◌%◌}
use native.Mathlib.Omega.{arith}
use Rattle.layout.specs.Leaves.{RowAt, row_of, Spot}
use Rattle.walk.specs.Plan.{plan_unit}
use Rattle.measure.proofs.plan_of.Goals as goal

pub returns : goal.returns
returns c =
    let x : ℕ = c.spot_of-spot.result + c.kids_in.result * plan_unit in
    let low : x % plan_unit ≡ c.spot_of-spot.result = omega (arith, c.spot_of-spot.ensures.upper_bound) in
    let high : x / plan_unit ≡ c.kids_in.result = omega (arith, c.spot_of-spot.ensures.upper_bound) in
    λ F M q f o t.
    let row = row_of q f t.rule in
    let there : RowAt M c.number_in.result row =
    subst (λ (i : ℕ). RowAt M i row) (sym (c.number_in.ensures.by_index t.number t.rule t.holds)) t.ruled.row in
    record {
      there = subst (λ (p : ℕ). Spot F t.rule.first t.rule.rest p) (sym low) (c.spot_of-spot.ensures.by_index F M row o there);
      kids = high ∙ c.kids_in.ensures.by_index t.number t.rule t.holds;
    }
