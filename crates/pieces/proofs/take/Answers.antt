-- `take` meets its contract: at each turn the lines that end before `at` are answered.
use mathlib.Core.Path.{refl, ◌∙◌}
use native.Mathlib.Omega.{arith}
use Rattle.pieces.proofs.Pieces.{so_far_none, so_far_room, so_far_all}
use Rattle.pieces.proofs.take.Goals as goal

pub loop-at-init : goal.loop-at-init
loop-at-init c =
    (so_far_none _, (refl, refl), (refl, refl), refl)

pub loop-at-preserved : goal.loop-at-preserved
loop-at-preserved c = (
  so_far_room c.args.piece.now c.loop-at.invariant.1.1 (c.take_line-taken.ensures.by_index _ _ _) c.loop-at.invariant.0,
  (c.take_line-taken.ensures.same_room.0 ∙ c.loop-at.invariant.1.0, c.take_line-taken.ensures.same_room.1 ∙ c.loop-at.invariant.1.1),
  (c.take_line-taken.ensures.same_buffer.0 ∙ c.loop-at.invariant.2.0, c.take_line-taken.ensures.same_buffer.1 ∙ c.loop-at.invariant.2.1),
  c.take_line-taken.auto.counts ∙ c.loop-at.invariant.3,
)

pub returns-clause-answered : goal.returns-clause-answered
returns-clause-answered c =
    so_far_all c.args.piece.now c.loop-at.at c.loop-at.invariant.0 (omega (arith, c.loop-at-test.false))
    c.with_places-line.ensures
