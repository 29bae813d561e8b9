-- `count_on` meets its contract.
use native.Mathlib.Omega.{arith}
use Rattle.stream_count.proofs.Counting as law
use Rattle.stream_count.proofs.count_on.Goals as goal

pub loop-i-init : goal.loop-i-init
loop-i-init c =
    law.counted_begun c.requires.1 c.requires.0 c.beginning-begun.result c.beginning-begun.ensures

pub loop-i-preserved : goal.loop-i-preserved
loop-i-preserved c =
    law.counted_more c.requires.0 c.loop-i.invariant c.loop-i-test.true (omega arith) c.end_behind-end.ensures
    c.labels_behind-labels.ensures

pub returns-then-end-elements : goal.returns-then-end-elements
returns-then-end-elements c =
    law.counted_all c.loop-i.invariant c.loop-i-test.false c.if-end-elements.true
