-- `put_all_refused` meets its contract: at each turn the counts before the next one are put.
use Rattle.line_counts.specs.Closing.{refused_from}
use Rattle.output.proofs.Queues.{put_none, put_as, put_then}
use Rattle.line_counts.proofs.Texts.{refused_next}
use borrow.Author.Rules.{rules}
use Rattle.line_counts.proofs.put_all_refused.Goals as goal

pub loop-i-init : goal.loop-i-init
unfolding refused_from
loop-i-init c =
    put_none

pub loop-i-preserved : goal.loop-i-preserved
loop-i-preserved c =
    put_as (refused_next c.args.counts.now c.loop-i.i (search rules)) (put_then c.loop-i.invariant c.put_refused.ensures)
