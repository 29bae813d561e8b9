-- `feed` meets its contract: each way on has the law of its case. Assumes nothing.
use Rattle.hexline.proofs.Laws as law
use Rattle.hexline.proofs.feed.Goals as goal

pub returns-in_default : goal.returns-in_default
returns-in_default c =
    λ cs. law.fed_strange c.args.c c.in_default.ensures

pub returns-in-Whole : goal.returns-in-Whole
returns-in-Whole c =
    λ cs. law.fed_waits c.args.c c.in-Some.d c.in-Some.ensures c.in-Whole.is

pub returns-in-Digit : goal.returns-in-Digit
returns-in-Digit c =
    λ cs. law.fed_byte c.args.c c.in-Digit.high c.in-Some.d c.in-Some.ensures c.in-Digit.is c.store.ensures c.join.ensures
