-- `why` meets its contract: the shape's refusal handed on, or 9 where the walk down the tree stopped. Assumes nothing.
use Rattle.why_no_word.proofs.Calls.{shape_answers, lacking_answers}
use Rattle.why_no_word.proofs.why.Goals as goal

pub returns-in-Err : goal.returns-in-Err
returns-in-Err c =
    λ M o n. shape_answers (record { opened = o; checked = c.check.ensures M o }) _ c.in-Err.is

pub returns : goal.returns
returns c =
    λ M o n.
    rw c.place_of.ensures
    (lacking_answers (record { opened = o; checked = c.check.ensures M o }) _ c.in_default.is n
    c.start-start.result (c.start-start.ensures.meant_by _ M o) c.lacking-walk.result c.lacking-walk.ensures.by_index)
