-- `put_strange` meets its contract.
use native.Mathlib.Omega.{arith}
use Rattle.output.proofs.Queues.{put_none, put_as, put_then}
use Rattle.line_counts.proofs.Texts.{strange_none, strange_some}
use borrow.Author.Rules.{rules}
use Rattle.line_counts.proofs.put_strange.Goals as goal

pub returns-then-count-eq0 : goal.returns-then-count-eq0
returns-then-count-eq0 c =
    put_as (strange_none _ (search rules)) put_none

pub returns : goal.returns
returns c =
    put_as (strange_some c.args.count (λ z. omega arith)) (put_then c.put_all.ensures c.put_number.ensures)
