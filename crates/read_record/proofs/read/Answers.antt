-- `read` meets its contract: 20 for the list, or the reading under its last symbol.
use Rattle.std.proofs.lemmas.Result.{err_from_is_err_and}
use Rattle.read_record.proofs.Under as law
use Rattle.read_record.proofs.read.Goals as goal

pub returns-in_err-last-clause-meant : goal.returns-in_err-last-clause-meant
returns-in_err-last-clause-meant c =
    let p = err_from_is_err_and c.from_residual.result c.from_residual.ensures.1 in
    rw (p.1, p.2) (λ M o. law.symbols_refused M.arities c.args.stream.now (c.in_err-last.ensures M o))
