-- `leads` meets its contract: r stands for itself in next, is in one class with q, and their rows match.
use mathlib.Core.Path.{sym, ◌∙◌}
use native.Mathlib.Omega.{arith}
use Rattle.class_round.proofs.Pairs.{told_leads, told_one}
use Rattle.class_round.proofs.leads.Goals as goal

pub returns-then-first-clause-told : goal.returns-then-first-clause-told
returns-then-first-clause-told c =
    let own = sym c.from.ensures ∙ c.if-from-r.false in
    λ M n o A d l m b.
    told_leads M c.args.rep.now c.args.next.now c.args.q c.args.r own c.if-rep-q.false
    (told_one M c.args.rep.now c.args.next.now c.args.q c.args.r (b.one c.if-first.true) (c.same_shapes.ensures M M o o A (omega
    (arith, m, d))))

pub returns-clause-told : goal.returns-clause-told
returns-clause-told c =
    let own = sym c.from.ensures ∙ c.if-from-r.false in
    λ M n o A d l m b.
    told_leads M c.args.rep.now c.args.next.now c.args.q c.args.r own c.if-rep-q.false
    (c.same_children.ensures c.args.table.now.frames.now c.args.table.now.frames.now M M o o A (omega (arith, m, d))
    (b.shapes c.if-first.false c.args.q c.args.r l m c.if-rep-q.false))
