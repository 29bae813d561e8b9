-- `spot_past` meets its contract: the next spot stands behind the word and the child's state.
use Rattle.std.proofs.Common.{arith}
use Rattle.word_leaves.proofs.Strides.{stride_next}
use Rattle.word_leaves.proofs.stride.spot_past.Goals as goal

pub returns : goal.returns
returns c =
    λ F u x cs l s e. stride_next F u x cs c.args.p s (omega (arith, l)) c.args.n e c.wrapping_add_usize.result c.wrapping_add_usize.ensures.value
