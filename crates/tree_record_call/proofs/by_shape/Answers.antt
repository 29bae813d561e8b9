-- `by_shape` meets its contract: the refusal of the shape, or what all but the last byte are told to be as a stream. Assumes nothing.
use mathlib.Core.Path.{sym, ◌∙◌}
use native.Mathlib.Omega.{arith}
use Rattle.std.proofs.lemmas.Result.{err_from_is_err_and}
use Rattle.tree_record_call.proofs.Shapes.{shape_refused, stream_whole, stream_refused}
use Rattle.tree_record_call.proofs.by_shape.Goals as goal

pub returns-in_err-check : goal.returns-in_err-check
returns-in_err-check c =
    λ M o e.
    let no = err_from_is_err_and c.from_residual.result c.from_residual.ensures.1 in
    rw (no.1, no.2) (shape_refused M.arities c.args.last c.args.tree.now (c.check.ensures M o) c.in_err-check.was)

pub returns-in-Ok : goal.returns-in-Ok
returns-in-Ok c =
    λ M o e.
    stream_whole M.arities c.args.last c.args.tree.now e (omega (arith, c.ranges.last)) (omega (arith, c.requires))
    (c.check.ensures M o) c.in_ok-check.was
    (sym c.in-Ok.is ∙ c.check-2.ensures)

pub returns-in-Err : goal.returns-in-Err
returns-in-Err c =
    λ M o e.
    stream_refused M.arities c.args.last c.args.tree.now e (omega (arith, c.ranges.last)) (omega (arith, c.requires))
    (c.check.ensures M o) c.in_ok-check.was
    (sym c.in-Err.is ∙ c.check-2.ensures)
