-- `add_states` meets its contract.
use native.Mathlib.Omega.{arith}
use mathlib.Core.Path.{◌∙◌}
use Rattle.summary.proofs.Growing.{grown_then, grown_most}
use Rattle.end_summaries.proofs.Rounds.{states_more, states_all}
use Rattle.end_summaries.proofs.adding.add_states.Goals as goal

pub overflow_add-k : goal.overflow_add-k
overflow_add-k c =
    omega (arith, grown_most (grown_then c.loop-i.invariant.0 c.add_state-k.ensures.grown) (omega arith))

pub loop-i-preserved : goal.loop-i-preserved
loop-i-preserved c = (
  grown_then c.loop-i.invariant.0 c.add_state-k.ensures.grown,
  λ M o. states_more c.args.order.now c.loop-i.i c.args.n c.from.result c.loop-i-test.true (c.from.ensures ∙ c.byte.ensures) (c.loop-i.invariant.1 M o)
      c.add_state-k.ensures.grown (c.add_state-k.ensures.adds M o),
)

pub returns-clause-adds : goal.returns-clause-adds
returns-clause-adds c =
    λ M o. states_all c.args.order.now c.loop-i.i c.args.n (omega arith) (c.loop-i.invariant.1 M o)
