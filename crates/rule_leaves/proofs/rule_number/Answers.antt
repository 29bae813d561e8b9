-- `rule_number` meets its contract: what is kept for the state and the symbol tells the rule's number.
use mathlib.Core.Path.{sym, subst}
use Prim.Native.Nat.{ℕ}
use Rattle.layout.specs.Leaves.{RuleFor}
use Rattle.rule_leaves.proofs.rule_number.Goals as goal

pub returns-then-x-eq0 : goal.returns-then-x-eq0
returns-then-x-eq0 c =
    λ F M o. (c.kept_for-x.ensures F M o).none c.if-x-eq0.true

pub returns : goal.returns
returns c =
    λ F M o.
    let t = (c.kept_for-x.ensures F M o).some c.if-x-eq0.false in
    let number = c.number_in.ensures.by_index t.number t.rule t.holds in
    (t.rule, subst (λ (i : ℕ). RuleFor M c.args.q c.args.f i t.rule) (sym number) t.ruled)
