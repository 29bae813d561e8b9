-- `total` meets its contract: at each turn the counts before the next one are summed.
use mathlib.Core.Path.{refl}
use borrow.Author.Rules.{rules}
use Rattle.line_counts.specs.Counts.{sum}
use Rattle.line_counts.proofs.Sums.{sum_next}
use Rattle.line_counts.proofs.total.Goals as goal

pub loop-count-init : goal.loop-count-init
unfolding sum
loop-count-init c =
    refl

pub loop-count-preserved : goal.loop-count-preserved
loop-count-preserved c =
    sum_next c.args.counts.now c.loop-count.count-index _ _ c.loop-count.invariant (search rules) (search rules)
