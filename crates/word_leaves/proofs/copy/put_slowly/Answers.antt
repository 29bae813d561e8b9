-- `put_slowly` puts a word byte by byte.
use Rattle.std.proofs.Common.{arith, rules}
use Rattle.word_leaves.proofs.Spots.{spot_byte, spot_within}
use Rattle.word_leaves.proofs.Putting.{put_none}
use Rattle.word_leaves.proofs.copy.put_slowly.Goals as goal

pub returns-then-p-n : goal.returns-then-p-n
returns-then-p-n c =
    put_none c.args.frames.now c.args.room.now c.args.p c.args.at (search rules)
    (λ u cs e s f. omega (arith, spot_byte c.args.frames.now u cs c.args.p s, spot_within c.args.frames.now u cs c.args.p s, c.from-n.ensures))
