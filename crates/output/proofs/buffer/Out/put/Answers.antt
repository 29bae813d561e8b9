-- `put` meets its contract: the byte has a place, or has one once the waiting bytes are written.
use borrow.Author.Rules.{rules}
use Rattle.output.specs.Queue.{seen}
use Rattle.output.proofs.Queues.{put_anew}
use Rattle.output.proofs.buffer.Out.put.Goals as goal

pub returns-then-store-2 : goal.returns-then-store-2
returns-then-store-2 c =
    put_anew c.args.byte _ (seen c.store.new.self) (seen c.flush.new.self) _ (search rules) c.flush.ensures.kept c.flush.ensures.same_buffer
    c.flush.ensures.flushed (search rules)
