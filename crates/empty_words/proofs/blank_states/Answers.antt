-- `blank_states` meets its contract.
use native.Mathlib.Omega.{arith}
use mathlib.Core.Path.{◌∙◌}
use Rattle.summary.proofs.Growing.{grown_then, grown_most}
use Rattle.empty_words.proofs.Marks.{between_more, between_all}
use Rattle.empty_words.proofs.blank_states.Goals as goal

pub overflow_add-k : goal.overflow_add-k
overflow_add-k c =
    omega (arith, grown_most (grown_then c.loop-i.invariant.0 c.blank_state-k.ensures.grown) (omega arith))

pub loop-i-preserved : goal.loop-i-preserved
loop-i-preserved c = (
  grown_then c.loop-i.invariant.0 c.blank_state-k.ensures.grown,
  λ F M o. between_more c.args.order.now c.loop-i.i c.args.n c.from.result c.loop-i-test.true (c.from.ensures ∙ c.byte.ensures) (c.loop-i.invariant.1 F M o)
      (c.blank_state-k.ensures.marks F M o),
)

pub returns-clause-marks : goal.returns-clause-marks
returns-clause-marks c =
    λ F M o. between_all c.args.order.now c.loop-i.i c.args.n (omega arith) (c.loop-i.invariant.1 F M o)
