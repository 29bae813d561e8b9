-- `has_blank` meets its contract.
use native.Mathlib.Omega.{arith}
use Rattle.words.proofs.Told.{told_yes, told_no}
use Rattle.empty_words.proofs.Rules.{none_more, one_found, none_found}
use Rattle.empty_words.proofs.has_blank.Goals as goal

pub loop-i-init : goal.loop-i-init
loop-i-init c =
    (c.rules_of-rules.ensures.to_le_rows_most.0, λ F M o. (c.rules_of-rules.ensures.meant_by F M o, λ j row e a b. absurd (omega arith)))

pub returns-then-blank_rule : goal.returns-then-blank_rule
returns-then-blank_rule c =
    λ F M o.
    let v = c.loop-i.invariant.1 F M o in
    told_yes
    (one_found M c.args.values.now _ v.0 c.loop-i.i (omega arith) (omega arith)
    (λ row e. (c.blank_rule.ensures c.loop-i.i row.rule (c.kept_of.ensures F M row o e)).if_true c.if-blank_rule.true))

pub loop-i-preserved : goal.loop-i-preserved
loop-i-preserved c = (
  c.loop-i.invariant.0,
  λ F M o.
      let v = c.loop-i.invariant.1 F M o in (
        v.0,
        none_more M c.args.values.now _ c.loop-i.i v.1
            (λ row e. (c.blank_rule.ensures c.loop-i.i row.rule (c.kept_of.ensures F M row o e)).if_false c.if-blank_rule.false),
      ),
)

pub returns : goal.returns
returns c =
    λ F M o.
    let v = c.loop-i.invariant.1 F M o in
    told_no (none_found M c.args.values.now _ v.0 c.loop-i.i (omega arith) v.1)
