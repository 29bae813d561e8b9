-- `put_counts` meets its contract: its parts, one after the other.
use Rattle.output.proofs.Queues.{put_then}
use Rattle.line_counts.proofs.put_counts.Goals as goal

pub returns : goal.returns
returns c =
    put_then
    (put_then
    (put_then
    (put_then
    (put_then
    (put_then
    (put_then c.put_number.ensures c.put_all.ensures)
    c.put_number-2.ensures)
    c.put.ensures)
    c.put_all-2.ensures)
    c.put_all_refused.ensures)
    c.put_strange.ensures)
    c.put-2.ensures
