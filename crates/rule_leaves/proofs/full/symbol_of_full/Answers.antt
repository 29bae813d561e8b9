-- `symbol_of_full` meets its contract: it is read off what is kept by the rule's number.
use Rattle.rule_leaves.proofs.Numbered.{listed_symbol}
use Rattle.rule_leaves.proofs.full.symbol_of_full.Goals as goal

pub returns-clause-row_meant : goal.returns-clause-row_meant
returns-clause-row_meant c =
    λ F M r o e. listed_symbol o c.args.i r e
