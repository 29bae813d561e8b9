-- `measure` meets its contract.
use mathlib.Core.Path.{refl, subst}
use native.Mathlib.Omega.{arith}
use Prim.Native.Nat.{ℕ}
use borrow.Author.Rules.{rules}
use lib.ListN.{get_or}
use Rattle.waiting.specs.Waiting.{Usual}
use Rattle.measure.proofs.Turn.{not_measurable, measuring_first, measuring_next, measuring_last}
use Rattle.measure.proofs.Turn.{KeptAt, measuring_unusual, measuring_state, measuring_lacking, measuring_early}
use Rattle.measure.proofs.measure.Goals as goal
use Rattle.measure.proofs.measure.Goals.{After-kept_for_full-x, Else-not-usual}

-- What comes next can be looked up.
met : (c : Else-not-usual) →
    Usual c.from-f.result c.loop-at.next c.loop-at.stack.top
met c = c.usual.ensures.if_true c.if-not-usual.false

-- What is kept for the number that comes next and its symbol.
kept : (c : After-kept_for_full-x) →
    KeptAt c.args.numbers.now c.loop-at.next (get_or c.args.tree.now c.loop-at.at 0) c.kept_for_full-x.result
kept c = subst (λ (f : ℕ). KeptAt c.args.numbers.now c.loop-at.next f c.kept_for_full-x.result) c.from-f.ensures c.kept_for_full-x.ensures

pub returns-then-not-ready-clause-by_index : goal.returns-then-not-ready-clause-by_index
returns-then-not-ready-clause-by_index c =
    λ F M o. not_measurable c.args.tree.now c.args.plan.now (search rules) (c.ready.ensures.if_false c.if-not-ready.true) M M.start

pub loop-at-init : goal.loop-at-init
loop-at-init c =
    let r = c.ready.ensures.if_true c.if-not-ready.false in
    rw c.new-stack.ensures.begun.0
    (measuring_first c.args.numbers.now c.args.tree.now _ _ c.start-next.result r.short r.places c.new-stack.ensures.begun.1 c.start-next.ensures.meant_by)

pub returns-then-not-usual-clause-by_index : goal.returns-then-not-usual-clause-by_index
returns-then-not-usual-clause-by_index c =
    λ F M o. measuring_unusual c.loop-at.invariant F M o c.loop-at-test.true
    (λ u. c.usual.ensures.if_false c.if-not-usual.true (rw c.from-f.ensures u))

pub returns-then-x-eq0-clause-by_index : goal.returns-then-x-eq0-clause-by_index
returns-then-x-eq0-clause-by_index c =
    let here = goal.at.returns-then-x-eq0-clause-by_index c in
    let h = (met here.Else-not-usual).waits in
    λ F M o. measuring_lacking c.loop-at.invariant F M o h _ (kept here.After-kept_for_full-x F M o (measuring_state c.loop-at.invariant F M o h))
    c.if-x-eq0.true

pub loop-at-preserved : goal.loop-at-preserved
loop-at-preserved c =
    let here = goal.at.loop-at-preserved c in
    measuring_next c.loop-at.invariant c.loop-at-test.true
    (subst (λ (f : ℕ). Usual f c.loop-at.next c.loop-at.stack.top) c.from-f.ensures (met here.Else-not-usual))
    (kept here.After-kept_for_full-x) c.if-x-eq0.false
    (record {
      planned = c.plan_of.ensures;
      letters = c.letters_in-sum.result;
      few = c.letters_in-sum.ensures.upper_bound;
      written = c.letters_in-sum.ensures.by_index;
      counted = refl;
      made = c.turn-next.ensures.made;
      kids_few = c.turn-next.ensures.few;
      kids = c.turn-next.ensures.top;
    })

pub returns-then-not-is_empty-clause-by_index : goal.returns-then-not-is_empty-clause-by_index
returns-then-not-is_empty-clause-by_index c =
    λ F M o. measuring_early c.loop-at.invariant F M o c.loop-at-test.false
    (omega (arith, c.is_empty.ensures.if_false c.if-not-is_empty.true))

pub returns-clause-by_index : goal.returns-clause-by_index
returns-clause-by_index c =
    measuring_last c.loop-at.invariant c.loop-at-test.false (omega (arith, c.is_empty.ensures.if_true c.if-not-is_empty.false))
