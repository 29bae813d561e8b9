-- `same_children` meets its contract: the rules passed match, and the rows do where all rules of q are passed.
use native.Mathlib.Omega.{arith}
use Rattle.words.proofs.Told.{told_yes, told_no}
use Rattle.layout.specs.Kids.{Alike}
use Rattle.same_rules.proofs.Found.{MatchFor}
use Rattle.same_rules.proofs.Ranges.{row_numbered, all_passed, passed_more, match_rows}
use Rattle.same_rules.proofs.same_children.Goals as goal

pub returns-then-not-same_kids : goal.returns-then-not-same_kids
returns-then-not-same_kids c =
    λ F G M N o p A l s.
    let x = row_numbered A c.loop-i.i c.loop-i.auto.i c.loop-i-test.true in
    told_no (λ h. (c.same_kids.ensures F G M N x.0 o p x.1 l (s x.0.symbol)).if_false c.if-not-same_kids.true (h x.0.symbol))

pub loop-i-preserved : goal.loop-i-preserved
loop-i-preserved c =
    λ F G M N o p A l s.
    passed_more (λ a. MatchFor (Alike c.args.map.now c.args.map2.now) M N c.args.q c.args.r a.symbol) c.loop-i.i
    (c.loop-i.invariant F G M N o p A l s)
    (λ a w. (c.same_kids.ensures F G M N a o p w l (s a.symbol)).if_true c.if-not-same_kids.false)

pub returns : goal.returns
returns c =
    λ F G M N o p A l s.
    told_yes
    (match_rows (Alike c.args.map.now c.args.map2.now) M N o.limited.made.rising p.limited.made.rising c.args.q c.args.r s
    (λ k a w. c.loop-i.invariant F G M N o p A l s k a w (omega (arith, all_passed A k a w, c.loop-i-test.false))))
