-- `find` meets its contract: the refusal of the stream or of its image, or what is found of the image. Assumes nothing.
use borrow.Author.Rules.{rules}
use Rattle.record_word_call.proofs.Imaged as law
use Rattle.record_word_call.proofs.find.Goals as goal

pub returns-in_err-last : goal.returns-in_err-last
returns-in_err-last c =
    λ M o.
    law.refused_record M c.args.stream.now c.read.result (c.read.ensures.meant M o) c.args.room.now _ c.in_err-last.was (search rules)

pub returns : goal.returns
returns c =
    λ M o.
    law.record_answers M c.args.stream.now c.read.result (c.read.ensures.meant M o) c.args.room.now _ _ c.in_ok-last.last
    c.in_ok-last.was o.limited.symbols (c.find_image.ensures M o)
