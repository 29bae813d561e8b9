-- `next_spot_full` meets its contract: the next spot stands behind the word's letters and the child's state.
use Rattle.std.proofs.Common.{◌≡◌, ℕ, ◌+◌, subst, arith}
use Rattle.layout.specs.Leaves.{Spot, behind_at}
use Rattle.word_leaves.proofs.Spots.{spot_next}
use Rattle.word_leaves.proofs.copy.next_spot_full.Goals as goal

pub returns : goal.returns
returns c =
    let e : behind_at c.args.frames.now c.args.p + 1 ≡ c.args.p + 2 + c.from.result = omega (arith, c.from.ensures) in
    λ u x cs s. subst (λ (k : ℕ). Spot c.args.frames.now x.after cs k) e (spot_next c.args.frames.now u x cs c.args.p s)
