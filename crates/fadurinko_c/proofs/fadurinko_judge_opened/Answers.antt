-- `fadurinko_judge_opened` meets its contract: the verdict of the opened table is told. Assumes nothing.
use Rattle.machine.specs.Verdict.{Judged}
use Rattle.fadurinko_c.proofs.Handing.{judged_linked}
use Rattle.fadurinko_c.proofs.fadurinko_judge_opened.Goals as goal

pub returns : goal.returns
returns c =
    λ M o.
    judged_linked (λ v. Judged M v) c.judge_opened-judgement.result (c.judge_opened-judgement.ensures M o) c.tell_nothing.ensures.value
    c.tell_nothing.ensures.answer_after
