-- `put_all` meets its contract: at each turn the bytes before the next one are put.
use borrow.Author.Rules.{rules}
use Rattle.output.proofs.Queues.{put_next}
use Rattle.output.proofs.buffer.Out.put_all.Goals as goal

pub loop-byte-preserved : goal.loop-byte-preserved
loop-byte-preserved c =
    put_next c.args.bytes.now c.loop-byte.byte-index c.loop-byte.invariant c.put.ensures (search rules)
