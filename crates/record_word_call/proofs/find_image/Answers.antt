-- `find_image` meets its contract: the word of the bytes of `tree` to which the image was put.
use Rattle.record_word_call.proofs.Imaged as law
use Rattle.record_word_call.proofs.find_image.Goals as goal

pub returns : goal.returns
returns c =
    λ M o. law.front_answers M c.args.stream.now c.args.tree.now _ c.args.room.now _ c.args.last _ c.put_image.ensures (c.find.ensures M o)
