-- `count_on` meets its contract. The loop's invariant: where labels alone have moved the index at which all would be closed, the elements
-- that are open are as many as it is ahead. Assumes nothing.
use Rattle.stream_count.proofs.Counting.{CountedUpTo}
use Rattle.stream_count.proofs.count_on.Given as goal

abbrev pub invariant-loop-i : goal.invariant-loop-i
invariant-loop-i l =
    CountedUpTo l.close l.last l.elements l.place l.bytes l.i l.end l.labels
