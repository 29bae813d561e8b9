-- `put_bytes` meets its contract: its parts, one after the other.
use Rattle.output.proofs.Queues.{put_then}
use Rattle.answers.proofs.put_bytes.Goals as goal

pub returns : goal.returns
returns c =
    put_then (put_then (put_then c.put_all.ensures c.put.ensures) c.put_hex.ensures) c.put-2.ensures
