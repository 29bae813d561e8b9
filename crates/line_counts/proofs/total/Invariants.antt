-- `total` meets its contract: at each turn the counts before the next one are summed.
use mathlib.Core.Path.{◌≡◌}
use lib.ListN.{take}
use Rattle.line_counts.specs.Counts.{capped, sum}
use Rattle.line_counts.proofs.total.Given as goal

abbrev pub invariant-loop-count : goal.invariant-loop-count
invariant-loop-count l =
    l.all ≡ capped (sum (take l.count-index l.counts))
