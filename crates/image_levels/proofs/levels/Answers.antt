-- `levels` meets its contract.
use mathlib.Core.Path.{◌≡◌, ap, ◌∙◌}
use native.Mathlib.Omega.{arith}
use borrow.Author.Rules.{rules}
use lib.ListN.{length}
use Rattle.words.specs.Reply.{refused}
use Rattle.image_levels.proofs.Steps.{climbing_some, climbing_free, climbing_byte, climbing_deeper, climbing_fit}
use Rattle.image_levels.proofs.levels.Goals as goal

pub returns-then-left-eq0-clause-told : goal.returns-then-left-eq0-clause-told
returns-then-left-eq0-clause-told c =
    λ ar a r s h n e l. c.deeper_at.ensures ∙ climbing_deeper c.loop-i.invariant (search rules) ar a r s h n e l c.if-left-eq0.true

pub bounds-stack-top : goal.bounds-stack-top
bounds-stack-top c =
    omega (arith, climbing_free c.loop-i.invariant (omega arith))

pub bounds-stack-top-in-loop-i : goal.bounds-stack-top-in-loop-i
bounds-stack-top-in-loop-i c =
    omega (arith, climbing_free c.loop-i.invariant (omega arith))

pub top_after-top-requires : goal.top_after-top-requires
top_after-top-requires c =
    (climbing_some c.loop-i.invariant (omega arith), omega (arith, climbing_free c.loop-i.invariant (omega arith)))

pub loop-i-preserved : goal.loop-i-preserved
loop-i-preserved c =
    climbing_byte c.loop-i.invariant c.loop-i-test.true (search rules) c.left_after-left.ensures c.top_after-top.ensures

pub returns-then-left-eq0-2-clause-told : goal.returns-then-left-eq0-2-clause-told
returns-then-left-eq0-2-clause-told c =
    λ ar a r s h n e l.
    let all : length c.args.bytes.now ≡ c.loop-i.i = omega arith in
    c.deeper_at-then-left-eq0-2.ensures ∙ ap (refused 10) all
    ∙ climbing_deeper c.loop-i.invariant (search rules) ar a r s h n e l c.if-left-eq0-2.true

pub returns-clause-told : goal.returns-clause-told
returns-clause-told c =
    λ ar a r s h n e l. climbing_fit c.loop-i.invariant (search rules) ar a r s h n e l c.if-left-eq0-2.false c.loop-i-test.false
