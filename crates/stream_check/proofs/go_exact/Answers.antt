-- `go_exact` meets its contract.
use Rattle.std.proofs.lemmas.Result.{err_from_is_err_and}
use Rattle.stream_count.proofs.Steps as law
use Rattle.stream_check.proofs.go_exact.Goals as goal

pub returns-in_err-now_open : goal.returns-in_err-now_open
returns-in_err-now_open c =
    let p = err_from_is_err_and c.from_residual.result c.from_residual.ensures.1 in
    rw (p.1, p.2) (law.looked_refused c.loop-i.invariant c.loop-i-test.true c.in_err-now_open.field-0.0 c.in_err-now_open.ensures)

pub loop-i-preserved : goal.loop-i-preserved
loop-i-preserved c =
    law.looked_more c.loop-i.invariant c.loop-i-test.true c.in_ok-now_open.now_open c.in_ok-now_open.ensures

pub returns : goal.returns
returns c =
    law.looked_all c.loop-i.invariant c.loop-i-test.false
