-- `check` meets its contract: the levels tell where the bytes are an image, and the shape elsewhere. Assumes nothing.
use native.Mathlib.Omega.{arith}
use Rattle.tree_record_call.proofs.Images.{front_long, levels_image}
use Rattle.tree_record_call.proofs.check.Goals as goal

pub returns : goal.returns
returns c =
    λ M o e.
    levels_image M.arities c.args.last c.args.tree.now c.levels.result (omega (arith, c.ranges.last)) (omega (arith, c.requires.0)) e
    (c.is_image.ensures.if_true c.if-not-is_image.false)
    (λ r s l i. c.levels.ensures.told M.arities c.args.last r s l (omega arith) i (omega (arith, c.requires.1, front_long c.args.tree.now)))
