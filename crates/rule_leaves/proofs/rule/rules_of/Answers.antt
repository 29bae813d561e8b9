-- `rules_of` meets its contract: numbers that an opened table has are as many as are read without a test.
use mathlib.Core.Path.{sym, subst}
use Rattle.layout.specs.Layout.{Opened}
use Rattle.rule_leaves.proofs.rule.rules_of.Goals as goal

pub returns-clause-meant_by : goal.returns-clause-meant_by
returns-clause-meant_by c =
    λ F M o. c.rules_of_full.ensures.meant_by F M (subst (λ I. Opened F I M) (sym c.in-Ok.ensures.1.same) o)
