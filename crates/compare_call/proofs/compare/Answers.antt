-- `compare` meets its contract: the first text's refusal, the second's, or what comparing the opened tables answers. Assumes nothing.
use Rattle.compare_call.proofs.Comparing as law
use Rattle.compare_call.proofs.compare.Goals as goal

pub returns : goal.returns
returns c =
    law.texts_compared c.compare_opened.result
    (record {
      one = c.judge_into.ensures;
      early = law.not_handed c.judge_into.result c.map_err.result c.in_ok-map_err.was c.map_err.ensures.variant;
      two = c.judge_into-2.ensures;
      early2 = law.not_handed c.judge_into-2.result c.map_err-2.result c.in_ok-map_err-2.was c.map_err-2.ensures.variant;
    })
    c.compare_opened.ensures
