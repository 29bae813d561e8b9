-- `kept_of` meets its contract: numbers that an opened table has are as many as are read without a test.
use mathlib.Core.Path.{sym, subst}
use Rattle.layout.specs.Layout.{Opened}
use Rattle.rule_leaves.proofs.rule.kept_of.Goals as goal

pub returns : goal.returns
returns c =
    λ F M r o e. c.kept_of_full.ensures F M r (subst (λ I. Opened F I M) (sym c.in-Ok.ensures.1.same) o) e
