-- `put_word` puts a word 32 bytes at a time, where the frames and the room have them.
use Rattle.std.proofs.Common.{◌∙◌, arith}
use Rattle.word_leaves.proofs.Putting.{put_stored}
use Rattle.word_leaves.proofs.copy.put_word.Goals as goal

pub returns : goal.returns
returns c =
    put_stored c.args.frames.now c.args.room.now c.store.new.room c.store-2.new.room c.sixteen.result c.sixteen-2.result
    c.args.p c.args.at c.from-n.result c.from-n.ensures c.if-n-gt32.false (omega (arith, c.if-room-at-lt32.false, c.requires))
    (omega (arith, c.if-p.false)) (c.store-2.auto.room ∙ c.store.auto.room)
    c.sixteen.ensures c.sixteen-2.ensures c.store.ensures c.store-2.ensures
