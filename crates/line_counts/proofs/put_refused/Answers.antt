-- `put_refused` meets its contract.
use native.Mathlib.Omega.{arith}
use Rattle.output.proofs.Queues.{put_none, put_as, put_then}
use Rattle.line_counts.proofs.Texts.{refused_none, refused_some}
use borrow.Author.Rules.{rules}
use Rattle.line_counts.proofs.put_refused.Goals as goal

pub returns-then-count-eq0 : goal.returns-then-count-eq0
returns-then-count-eq0 c =
    put_as (refused_none _ _ (search rules)) put_none

pub returns : goal.returns
returns c =
    put_as (refused_some c.args.number c.args.count (λ z. omega arith))
    (put_then
    (put_then (put_then c.put_all.ensures c.put_number.ensures) c.put_all-2.ensures)
    c.put_number-2.ensures)
