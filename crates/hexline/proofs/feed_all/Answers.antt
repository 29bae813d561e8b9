-- `feed_all` meets its contract.
use native.Mathlib.Omega.{arith}
use borrow.Author.Rules.{rules}
use Rattle.hexline.proofs.Laws as law
use Rattle.hexline.proofs.feed_all.Goals as goal

pub loop-taken-preserved : goal.loop-taken-preserved
loop-taken-preserved c =
    law.fed_more c.loop-taken.invariant (omega arith) (search rules) c.if-c-eq10.false c.feed-line.ensures

pub returns-clause-by_index : goal.returns-clause-by_index
returns-clause-by_index c =
    law.fed_all c.loop-taken.invariant c.loop-taken-test.false
