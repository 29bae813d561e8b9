-- `first_of_full` meets its contract: it is kept for each state, and one behind the last.
use native.Mathlib.Omega.{arith}
use mathlib.Core.Path.{refl}
use Rattle.rule_leaves.proofs.Listing.{first_listed}
use Rattle.rule_leaves.proofs.full.first_of_full.Goals as goal

pub returns-else-n-clause-meant_by : goal.returns-else-n-clause-meant_by
returns-else-n-clause-meant_by c =
    λ F M o h. let f = first_listed o c.args.q _ refl h in omega (arith, f.0, f.1, c.if-n.false)
