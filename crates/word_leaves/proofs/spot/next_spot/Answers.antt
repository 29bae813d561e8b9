-- `next_spot` meets its contract: the next spot stands behind the child, inside the lent bytes.
use Rattle.std.proofs.Common.{ℕ, ◌+◌, sym, subst, arith}
use Rattle.layout.specs.Leaves.{Spot}
use Rattle.word_leaves.proofs.Spots.{spot_next, spot_inside}
use Rattle.word_leaves.proofs.spot.next_spot.Goals as goal

pub returns-then-s-lt16448-clause-spot : goal.returns-then-s-lt16448-clause-spot
returns-then-s-lt16448-clause-spot c =
    λ u x cs l s. subst (λ (k : ℕ). Spot c.args.frames.now x.after cs (k + 1)) (sym c.behind-s.ensures.0) (spot_next c.args.frames.now u x cs c.args.p s)

pub returns-else-s-lt16448-clause-spot : goal.returns-else-s-lt16448-clause-spot
returns-else-s-lt16448-clause-spot c =
    λ u x cs l s. absurd (omega (arith, spot_inside c.args.frames.now u x cs c.args.p s, l, c.behind-s.ensures.0, c.if-s-lt16448.false))
