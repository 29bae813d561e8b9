-- `kept_for_full` meets its contract: what is kept stands in the grid.
use native.Mathlib.Omega.{arith}
use Rattle.rule_leaves.proofs.Numbered.{entry_kept}
use Rattle.rule_leaves.proofs.full.kept_for_full.Goals as goal

pub returns : goal.returns
returns c =
    λ F M o h. entry_kept o.limited c.args.q c.args.f _ (o.grid c.args.q c.args.f h (omega arith))
