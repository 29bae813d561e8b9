-- `rule_text` meets its contract: the bytes from the rule's spot on, as many as it has.
use Rattle.std.proofs.Common.{arith}
use Rattle.word_leaves.proofs.RuleBytes.{text_ends, text_whole}
use Rattle.word_leaves.proofs.texts.rule_text.Goals as goal

pub returns-then-table-end-clause-result_value : goal.returns-then-table-end-clause-result_value
returns-then-table-end-clause-result_value c =
    λ M r o e. absurd (omega (
      arith,
      text_ends c.args.table.now.frames.now c.spot_of-from.result c.text_length.result r.rule
          (c.spot_of-from.ensures.by_index c.args.table.now.frames.now M r o e) (c.text_length.ensures.row_meant c.args.table.now.frames.now M r o e),
    ))

pub returns-clause-result_value : goal.returns-clause-result_value
returns-clause-result_value c =
    λ M r o e. text_whole c.args.table.now.frames.now c.spot_of-from.result c.text_length.result r.rule
    (c.spot_of-from.ensures.by_index c.args.table.now.frames.now M r o e)
    (c.text_length.ensures.row_meant c.args.table.now.frames.now M r o e)
