-- `state_of` meets its contract: it is read off what is kept by the rule's number.
use native.Mathlib.Omega.{arith}
use Rattle.rule_leaves.proofs.Numbered.{listed_state}
use Rattle.rule_leaves.proofs.rule.state_of.Goals as goal

pub returns-clause-row_meant : goal.returns-clause-row_meant
returns-clause-row_meant c =
    λ F M r o e. omega (arith, c.number.ensures, listed_state o c.args.i r e)
