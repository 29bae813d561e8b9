-- `put_found` meets its contract: the line of a word, or of a refusal.
use Rattle.respond.proofs.Laws as law
use Rattle.respond.proofs.put_found.Goals as goal

pub returns-in-Err-clause-answered : goal.returns-in-Err-clause-answered
returns-in-Err-clause-answered c =
    λ a R h. law.refusal_responds a R _ _ _ _ _ _ c.in-Err.is h c.refused.ensures.answered
