-- `letter_at` meets its contract: letter k stands k bytes behind the word's length.
use Rattle.std.proofs.Common.{◌∙◌, arith}
use Rattle.word_leaves.proofs.Strides.{stride_letter}
use Rattle.word_leaves.proofs.stride.letter_at.Goals as goal

pub returns : goal.returns
returns c =
    λ u cs s l. c.byte.ensures ∙ stride_letter c.args.frames.now u cs c.args.p s (omega arith) c.args.k c.wrapping_add_usize.result l
    c.wrapping_add_usize.ensures.value
