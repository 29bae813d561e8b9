-- `state_past` meets its contract: the state is the byte behind the word.
use Rattle.std.proofs.Common.{◌∙◌, arith}
use Rattle.word_leaves.proofs.Strides.{stride_state}
use Rattle.word_leaves.proofs.stride.state_past.Goals as goal

pub returns-clause-value : goal.returns-clause-value
returns-clause-value c =
    λ u x cs s e l.
    let read = c.from.ensures ∙ c.byte.ensures
    ∙ stride_state c.args.frames.now u x cs c.args.p s (omega arith) c.args.n e c.wrapping_add_usize.result c.wrapping_add_usize.ensures.value in
    omega (arith, read, l)
