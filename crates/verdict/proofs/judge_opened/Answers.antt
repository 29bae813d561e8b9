-- `judge_opened` meets its contract: the states that are reached, and the verdict by them.
use Rattle.verdict.proofs.judge_opened.Goals as goal

pub returns : goal.returns
returns c =
    c.judge_reached.ensures c.find_reached.ensures
