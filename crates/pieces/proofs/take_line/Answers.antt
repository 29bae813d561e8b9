-- `take_line` meets its contract: the characters up to a line feed are fed, and where one stands the line is answered.
use Prim.Native.Nat.{◌+◌}
use mathlib.Core.Path.{refl}
use Rattle.pieces.proofs.Pieces.{so_far_fed, so_far_answered, so_far_as, taken_feed}
use Rattle.pieces.proofs.take_line.Goals as goal

pub returns-then-at-piece-clause-by_index : goal.returns-then-at-piece-clause-by_index
returns-then-at-piece-clause-by_index c =
    λ T₀ l₀ O₀ g.
    so_far_answered c.args.piece.now (c.args.at + c.feed_all-fed.result.taken)
    (so_far_as c.args.piece.now c.with_rest-line.ensures
    (so_far_fed c.args.piece.now c.args.at c.feed_all-fed.result.taken g c.feed_all-fed.ensures.up_to_feed c.feed_all-fed.ensures.by_index
    c.feed_all-fed.auto.tree))
    refl c.answer.ensures.answered c.start.ensures c.if-at-piece.true
    (taken_feed c.args.piece.now c.args.at c.feed_all-fed.result.taken c.feed_all-fed.ensures.up_to_feed c.if-at-piece.true)

pub returns-clause-by_index : goal.returns-clause-by_index
returns-clause-by_index c =
    λ T₀ l₀ O₀ g. so_far_as c.args.piece.now c.with_rest-line.ensures
    (so_far_fed c.args.piece.now c.args.at c.feed_all-fed.result.taken g c.feed_all-fed.ensures.up_to_feed c.feed_all-fed.ensures.by_index
    c.feed_all-fed.auto.tree)
