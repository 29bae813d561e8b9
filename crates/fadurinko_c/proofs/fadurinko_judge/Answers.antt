-- `fadurinko_judge` meets its contract: the verdict of the text is told. Assumes nothing.
use Rattle.promises.specs.Judgement.{JudgementAnswer}
use Rattle.fadurinko_c.proofs.Handing.{judged_linked}
use Rattle.fadurinko_c.proofs.fadurinko_judge.Goals as goal

pub returns : goal.returns
returns c =
    judged_linked (λ v. JudgementAnswer c.args.text.now v) c.judge-judgement.result c.judge-judgement.ensures c.tell_nothing.ensures.value
    c.tell_nothing.ensures.answer_after
