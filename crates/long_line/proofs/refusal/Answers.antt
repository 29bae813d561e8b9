-- `refusal` meets its contract: the list's refusal, or the stream's.
use mathlib.Core.Path.{sym}
use Rattle.long_line.proofs.Lines as law
use borrow.Author.Rules.{rules}
use Rattle.long_line.proofs.refusal.Goals as goal

pub returns-in-Ok : goal.returns-in-Ok
returns-in-Ok c =
    λ cs bs n e m h M o.
    law.long_told h e _ _ _ c.front-bytes.ensures (search rules) n m c.refusal_under.ensures M o (sym (c.in-Ok.ensures M o))

pub returns-in-Err : goal.returns-in-Err
returns-in-Err c =
    λ cs bs n e m h M o. law.list_told M.arities bs _ (sym (c.in-Err.ensures M o))
