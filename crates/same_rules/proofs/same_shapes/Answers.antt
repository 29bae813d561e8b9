-- `same_shapes` meets its contract: the rules passed match, and the rows do where r has as many rules.
use native.Mathlib.Omega.{arith}
use Rattle.words.proofs.Told.{told_no}
use Rattle.same_words.specs.Words.{Any}
use Rattle.same_rules.proofs.Ranges.{row_numbered, all_passed, told_ranges}
use Rattle.same_rules.proofs.same_shapes.Goals as goal

pub returns-then-not-same_shape : goal.returns-then-not-same_shape
returns-then-not-same_shape c =
    λ M N o p A l.
    let x = row_numbered A c.loop-i.i c.loop-i.auto.i c.loop-i-test.true in
    told_no (λ h. (c.same_shape.ensures M N x.0 o p x.1 l).if_false c.if-not-same_shape.true (h x.0.symbol))

pub returns : goal.returns
returns c =
    λ M N o p A l.
    told_ranges Any M N o.limited.made.rising p.limited.made.rising c.args.q c.args.r A
    (c.rules_of-others.ensures.meant_by c.args.second.now.frames.now N p)
    (λ k a w. c.loop-i.invariant M N o p A l k a w (omega (arith, all_passed A k a w, c.loop-i-test.false)))
