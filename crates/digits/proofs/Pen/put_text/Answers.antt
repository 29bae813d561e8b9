-- `put_text` meets its contract: the length byte and then the letters.
use Rattle.digits.proofs.Room.{wrote_text}
use Rattle.digits.proofs.Pen.put_text.Goals as goal

pub returns-clause-wrote : goal.returns-clause-wrote
returns-clause-wrote c =
    wrote_text c.narrow.result c.args.word.now (c.narrow.ensures c.requires.0) c.put_byte.ensures.wrote c.put_hex.ensures.wrote
