-- `to_line` meets its contract: each answer in its turn.
use borrow.Author.Tests.{not-false}
use Rattle.respond.proofs.Laws as law
use Rattle.respond.proofs.Question.to_line.Goals as goal

pub returns-then-not-is_hex-clause-answered : goal.returns-then-not-is_hex-clause-answered
returns-then-not-is_hex-clause-answered c =
    λ cs t n m h o.
    law.strange_answered _ cs _ _ t _ _ (c.is_hex.ensures _ _ cs _ _ h) c.if-not-is_hex.true c.put_all.ensures

pub returns-in-Ok-clause-answered : goal.returns-in-Ok-clause-answered
returns-in-Ok-clause-answered c =
    λ cs t n m h o.
    law.table_answered _ cs _ _ _ _ t _ _ _ _ c.in-Ok.is o (c.is_hex.ensures _ _ cs _ _ h) (not-false _ c.if-not-is_hex.false-raw)
    (λ bs e. c.to_held.ensures.answered cs bs n m e h)

pub returns-in-Err-clause-answered : goal.returns-in-Err-clause-answered
returns-in-Err-clause-answered c =
    λ cs t n m h o.
    law.refused_answered _ cs _ _ _ _ t _ _ _ _ _ c.in-Err.is o (c.is_hex.ensures _ _ cs _ _ h) (not-false _ c.if-not-is_hex.false-raw)
    c.refused.ensures.answered
