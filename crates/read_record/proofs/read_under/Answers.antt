-- `read_under` meets its contract: the stream's refusal, 6 for too many symbols, or the record.
use native.Mathlib.Omega.{arith}
use Rattle.std.proofs.lemmas.Result.{err_from_is_err_and}
use Rattle.read_record.proofs.Under as law
use Rattle.read_record.proofs.read_under.Goals as goal

pub returns-in_err-check-clause-by_index : goal.returns-in_err-check-clause-by_index
returns-in_err-check-clause-by_index c =
    let p = err_from_is_err_and c.from_residual.result c.from_residual.ensures.1 in
    rw (p.1, p.2) (λ ar l. law.stream_refused ar c.args.stream.now c.args.last l c.in_err-check.ensures)

pub returns-then-stream-ge-TREE-clause-by_index : goal.returns-then-stream-ge-TREE-clause-by_index
returns-then-stream-ge-TREE-clause-by_index c =
    λ ar l. law.image_refused ar c.args.stream.now c.args.last l (omega arith) c.in_ok-check.ensures c.if-stream-ge-TREE.true

pub returns-clause-by_index : goal.returns-clause-by_index
returns-clause-by_index c =
    λ ar l. law.stream_read ar c.args.stream.now c.args.last l c.in_ok-check.ensures c.if-stream-ge-TREE.false
