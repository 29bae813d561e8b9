-- `go_exact` meets its contract. The loop's invariant: what is told from byte i on, with so many elements open, is told of all the bytes.
use Rattle.stream_count.proofs.Steps.{LookedUpTo}
use Rattle.stream_check.proofs.go_exact.Given as goal

abbrev pub invariant-loop-i : goal.invariant-loop-i
invariant-loop-i l =
    LookedUpTo l.close l.last l.elements l.place l.bytes l.now_open l.i
