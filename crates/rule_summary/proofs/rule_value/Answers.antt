-- `rule_value` meets its contract.
use native.Mathlib.Omega.{arith}
use mathlib.Core.Path.{◌≡◌, ap, ◌∙◌}
use Rattle.summary.specs.Codes.{side_of, decode, untold}
use Rattle.summary.specs.declared.Summary.{Summary}
use Rattle.summary.proofs.Codes.{nothing_known}
use borrow.Author.Rules.{rules}
use Rattle.word_leaves.proofs.Ahead.{ahead_begun, ahead_more, ahead_none}
use Rattle.rule_summary.proofs.Walks.{gathering_begun, gathering_more, gathering_done, gathering_none}
use Rattle.rule_summary.proofs.rule_value.Goals as goal

pub loop-child-init : goal.loop-child-init
loop-child-init c = (
  c.letters_at-n.ensures.upper_bound,
  λ M row o e.
      let r = row.rule in
      let laid = c.laid_at-rule.ensures c.args.table.now.frames.now M row o e in
      let long = c.letters_at-n.ensures.value r.first r.rest laid.spot in
      let end = c.alone_at-x.ensures r.first r.rest laid.spot long in
      gathering_begun (side_of c.args.side) c.args.values.now r (ahead_begun o c.args.i row e laid.spot (omega (arith, laid.kids))) long (decode
      c.alone_at-x.result) end,
)

pub returns-then-eq : goal.returns-then-eq
returns-then-eq c =
    let same : ◌≡◌ {A = Summary} c.loop-child.x untold = search rules in
    λ M row o e. nothing_known ∙ gathering_none (side_of c.args.side) c.args.values.now (c.loop-child.invariant.1 M row o e)
    (ap decode same ∙ nothing_known)

pub loop-child-preserved : goal.loop-child-preserved
loop-child-preserved c =
    let side = side_of c.args.side in (
      c.letters_at-n-in-loop-child.ensures.upper_bound,
      λ M row o e.
          let l = c.loop-child.invariant.1 M row o e in
          let t = ahead_more l.ahead (omega arith) o.bytes l.long c.state_past.ensures.value
          c.spot_past-p.ensures in
          let w = t.child.after in
          let long = c.letters_at-n-in-loop-child.ensures.value w t.rest t.ahead.spot in
          let end = c.with_word-x.ensures w t.rest t.ahead.spot long in
          gathering_more side c.args.values.now l t (omega arith) long (decode c.next_to-y.result) (decode c.with_word-x.result) c.next_to-y.ensures end,
    )

pub returns : goal.returns
returns c =
    λ M row o e. let l = c.loop-child.invariant.1 M row o e in gathering_done (side_of c.args.side) c.args.values.now l (ahead_none l.ahead
    (omega arith))
