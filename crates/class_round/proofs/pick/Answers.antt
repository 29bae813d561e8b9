-- `pick` meets its contract: no state passed leads q.
use mathlib.Core.Path.{◌≡◌, sym, ◌∙◌}
use native.Mathlib.Omega.{arith}
use lib.ListN.{get_or}
use Rattle.class_round.proofs.Pairs.{picked_self}
use Rattle.class_round.proofs.pick.Goals as goal

pub returns-then-oldest-q-clause-picked : goal.returns-then-oldest-q-clause-picked
returns-then-oldest-q-clause-picked c =
    let first : c.args.q ≡ get_or c.args.rep.now c.args.q 0 = sym c.if-oldest-q.true ∙ c.from-oldest.ensures in
    λ M n o d l b. picked_self M c.args.rep.now c.args.next.now c.args.q (λ p h k. omega (arith, first, c.requires.1 p, k.pair.alike, h))

pub returns-clause-picked : goal.returns-clause-picked
returns-clause-picked c =
    λ M n o e h b.
    picked_self M c.args.rep.now c.args.next.now c.args.q (λ p k. c.loop-r.invariant M n o e h b p (omega (arith, k, c.loop-r-test.false)))
