-- `with_word` meets its contract: the word is empty, or it has an end.
use mathlib.Core.Path.{ap, ◌∙◌}
use Rattle.end_laws.specs.Ends.{beside}
use Rattle.summary.specs.Codes.{side_of, decode}
use Rattle.rule_summary.proofs.with_word.Goals as goal

pub returns : goal.returns
returns c =
    λ u cs s e. c.next_to.ensures ∙ ap (beside (side_of c.args.side) (decode c.args.x)) (c.end_at.ensures u cs s e)
