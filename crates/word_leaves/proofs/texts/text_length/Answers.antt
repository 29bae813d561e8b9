-- `text_length` meets its contract: what is kept of the rule tells its children and its letters.
use Rattle.std.proofs.Common.{arith}
use Rattle.word_leaves.proofs.RuleBytes.{length_rule}
use Rattle.word_leaves.proofs.texts.text_length.Goals as goal

pub returns-clause-row_meant : goal.returns-clause-row_meant
returns-clause-row_meant c =
    λ F M r o e.
    let h = c.kept_of-kept.ensures F M r o e in
    omega (arith, c.kids_in.ensures.by_index c.args.i r.rule h, c.letters_in.ensures.by_index c.args.i r.rule h, length_rule r.rule)
