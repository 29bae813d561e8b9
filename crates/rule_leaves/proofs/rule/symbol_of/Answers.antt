-- `symbol_of` meets its contract: numbers that an opened table has are as many as are read without a test.
use mathlib.Core.Path.{sym, subst}
use Rattle.layout.specs.Layout.{Opened}
use Rattle.rule_leaves.proofs.rule.symbol_of.Goals as goal

pub returns-clause-row_meant : goal.returns-clause-row_meant
returns-clause-row_meant c =
    λ F M r o e. c.symbol_of_full.ensures.row_meant F M r (subst (λ I. Opened F I M) (sym c.in-Ok.ensures.1.same) o) e
