-- `feed_all` meets its contract. The loop's invariant: the characters before `taken` are taken, and none is a line feed.
-- Assumes nothing.
use Rattle.hexline.proofs.Laws as law
use Rattle.hexline.proofs.feed_all.Given as goal

abbrev pub invariant-loop-taken : goal.invariant-loop-taken
invariant-loop-taken l =
    law.FedSoFar l.piece l.initial.tree l.initial.line l.tree l.line l.taken
