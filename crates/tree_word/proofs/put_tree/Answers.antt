-- `put_tree` meets its contract: exactly the word's part was lent, or 32 bytes more that were put back. Assumes nothing.
use native.Mathlib.Omega.{arith}
use Rattle.tree_word.proofs.Lent.{more_put}
use Rattle.tree_word.proofs.put_tree.Goals as goal

pub returns : goal.returns
returns c =
    λ M q t w d many.
    more_put
    d
    many
    c.args.room.now
    c.put.new.room
    c.eval-2.new.room
    c.saved-behind.result
    c.args.from
    (omega (arith, c.if-room-end-lt32.false, c.requires.1))
    c.saved-behind.ensures
    c.eval-2.ensures.word_written
    c.eval-2.ensures.tidy
    c.put.ensures.1
