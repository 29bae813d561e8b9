-- `round` meets its contract: each state passed has the least state that the round leaves with it.
use Prim.Native.Nat.{◌<◌, ◌≤◌}
use native.Mathlib.Omega.{arith}
use lib.ListN.{length, get_or, length-set}
use Rattle.class_round.specs.Round.{Paired, LeastOf}
use Rattle.class_round.proofs.Pairs.{picked_least}
use Rattle.class_round.proofs.Stores.{set_below}
use Rattle.class_round.proofs.round.Goals as goal

pub loop-q-preserved : goal.loop-q-preserved
loop-q-preserved c =
    let low = c.requires.1 c.pick-r.result in
    let inside : c.loop-q.q < length c.loop-q.next = omega (arith, c.loop-q.invariant.0, c.requires.0) in (
      simp length-set c.loop-q.invariant.0,
      set_below (λ p x. (get_or c.args.rep.now p 0 ≤ x) × (x ≤ p)) c.loop-q.next c.loop-q.q c.pick-r.result inside c.loop-q.invariant.1
          (omega (arith, c.pick-r.ensures.upper_bound.1, low), c.pick-r.ensures.upper_bound.0),
      λ M o e b. set_below (λ p x. LeastOf (Paired M c.args.rep.now p) x) c.loop-q.next c.loop-q.q c.pick-r.result inside
          (c.loop-q.invariant.2 M o e b)
          (picked_least M c.args.rep.now c.loop-q.next c.loop-q.q c.pick-r.result c.pick-r.ensures.upper_bound.0 (c.loop-q.invariant.2 M o
          e b) (c.pick-r.ensures.picked M c.args.n o e c.loop-q-test.true b)),
    )

pub returns-clause-meant : goal.returns-clause-meant
returns-clause-meant c =
    λ M o e b p h. c.loop-q.invariant.2 M o e b p (omega (arith, h, c.loop-q-test.false))
