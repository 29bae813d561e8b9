-- `child_in` meets its contract: the first child's state, or a later one's.
use mathlib.Core.Path.{◌≡◌, ap, ◌∙◌}
use Prim.Native.Nat.{ℕ, suc, ◌-◌}
use native.Mathlib.Omega.{arith}
use Rattle.layout.specs.Leaves.{state_no}
use Rattle.rule_leaves.proofs.kept.child_in.Goals as goal

pub returns-clause-by_index : goal.returns-clause-by_index
returns-clause-by_index c =
    let one_less : suc (c.args.j - 1) ≡ c.args.j = omega arith in λ i r h l.
    c.later_in.ensures.by_index i r (c.args.j - 1) h (omega (arith, c.kids_in-kids.ensures.by_index i r h, l, one_less))
    ∙ ap (λ (k : ℕ). state_no r.rest k) one_less
