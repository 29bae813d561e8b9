-- `add_state` meets its contract.
use mathlib.Core.Path.{◌≡◌, sym, ap, ◌∙◌}
use native.Mathlib.Omega.{arith}
use borrow.Author.Rules.{rules}
use Rattle.rule_leaves.proofs.Numbered.{row_state_small}
use Rattle.summary.specs.Codes.{letters_of}
use Rattle.summary.specs.declared.Letters.{Letters}
use Rattle.summary.specs.declared.Letters.TheVariants.{Several}
use Rattle.summary.proofs.Growing.{grown_none, grown_then, grown_most}
use Rattle.end_summaries.proofs.Rounds.{state_none, several_tried, numbers_none, numbers_more}
use Rattle.end_summaries.proofs.adding.add_state.Goals as goal

pub returns-then-q-ge-STATES-clause-adds : goal.returns-then-q-ge-STATES-clause-adds
returns-then-q-ge-STATES-clause-adds c =
    λ M o. state_none c.args.values.now c.args.q (λ i row e. omega (arith, row_state_small o i row e, c.if-q-ge-STATES.true))

pub loop-i-init : goal.loop-i-init
loop-i-init c = (
  c.rules_of-rules.ensures.to_le_rows_most.0,
  omega arith,
  grown_none c.args.values.now,
  λ M o. let w = c.rules_of-rules.ensures.meant_by c.args.table.now.frames.now M o in (w, numbers_none o.limited.made.rising w c.args.values.now),
)

pub returns-then-eq-clause-adds : goal.returns-then-eq-clause-adds
returns-then-eq-clause-adds c =
    let told : ◌≡◌ {A = Letters} c.letters.result Several = search rules in
    λ M o. several_tried o.limited.made.rising (c.loop-i.invariant.3 M o).1 (sym c.letters.ensures ∙ ap letters_of told)

pub overflow_add-k : goal.overflow_add-k
overflow_add-k c =
    omega (arith, grown_most (grown_then c.loop-i.invariant.2 c.add_rule-k.ensures.grown) (omega arith))

pub loop-i-preserved : goal.loop-i-preserved
loop-i-preserved c = (
  omega (arith, c.loop-i.invariant.0),
  omega (arith, c.loop-i.invariant.1),
  grown_then c.loop-i.invariant.2 c.add_rule-k.ensures.grown,
  λ M o.
      let w = c.loop-i.invariant.3 M o in (
        w.0,
        numbers_more o.limited.made.rising w.0 c.loop-i.i c.loop-i-test.true c.loop-i.invariant.1 w.1 c.add_rule-k.ensures.grown (λ
            row. c.add_rule-k.ensures.values_after M row o),
      ),
)
