-- `kept_of_full` meets its contract: the rule's state and symbol tell where it is kept.
use mathlib.Core.Path.{refl}
use Rattle.rule_leaves.proofs.Listing.{kept_listed}
use Rattle.rule_leaves.proofs.full.kept_of_full.Goals as goal

pub returns : goal.returns
returns c =
    λ F M r o e. kept_listed o c.args.i r e _ _ refl refl
