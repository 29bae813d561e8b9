-- `add_rule` meets its contract: a rule that adds nothing, or how much the summary of its state rises.
use native.Mathlib.Omega.{arith}
use borrow.Author.Rules.{rules}
use Rattle.summary.specs.Codes.{side_of}
use Rattle.summary.proofs.Growing.{grown_one}
use Rattle.end_summaries.proofs.Steps.{visit_same, visit_one}
use Rattle.end_summaries.proofs.adding.add_rule.Goals as goal

pub returns-then-eq-clause-values_after : goal.returns-then-eq-clause-values_after
returns-then-eq-clause-values_after c =
    λ M row o e d. visit_same (side_of c.args.side) row c.args.q d c.args.values.now c.rule_value.result c.joined-new.result
    (c.rule_value.ensures M row o e) c.joined-new.ensures (search rules)

pub returns-clause-grown : goal.returns-clause-grown
returns-clause-grown c =
    (grown_one c.args.values.now c.args.q c.rule_value.result c.joined-new.result c.rank-2.result c.rank.result (omega arith)
    c.joined-new.ensures c.rank.ensures c.rank-2.ensures).1

pub returns-clause-values_after : goal.returns-clause-values_after
returns-clause-values_after c =
    λ M row o e d. visit_one (side_of c.args.side) row c.args.q d c.args.values.now c.rule_value.result c.joined-new.result
    (c.rule_value.ensures M row o e) c.joined-new.ensures
