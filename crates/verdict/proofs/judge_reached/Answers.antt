-- `judge_reached` meets its contract: those with the empty word, the summaries at both sides, the checks in order.
use Rattle.verdict.proofs.Opened.{begun_untold, done_judged}
use Rattle.verdict.proofs.judge_reached.Goals as goal

pub blanks-requires : goal.blanks-requires
blanks-requires c = begun_untold

-- What the checks answer is the verdict.
pub returns : goal.returns
returns c =
    λ reaches M o.
    done_judged record {
      reaches = reaches;
      blanks = c.blanks.ensures.meant_by;
      empties = c.blanks.ensures.meant_by_2;
      lefts = c.settle.ensures;
      rights = c.settle-2.ensures;
      verdict = c.first_fault.ensures;
    } M o
