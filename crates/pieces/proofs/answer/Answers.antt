-- `answer` meets its contract: what was put for the line is its answer.
use Rattle.respond.proofs.Laws.{answered_line}
use Rattle.pieces.proofs.answer.Goals as goal

pub returns-clause-answered : goal.returns-clause-answered
returns-clause-answered c =
    λ cs t n m h o. answered_line _ t _ cs _ _ _ (c.to_line-counted.ensures.answered cs t n m h o)
