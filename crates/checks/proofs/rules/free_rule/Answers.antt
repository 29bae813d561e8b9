-- `free_rule` meets its contract.
use native.Mathlib.Omega.{arith}
use mathlib.Core.Path.{ap, ◌∙◌}
use Prim.Native.Nat.{◌+◌, ◌-◌}
use Rattle.machine.specs.Machine.{Row, Table}
use Rattle.end_laws.specs.Ends.{stuck}
use Rattle.layout.specs.Layout.{Opened}
use Rattle.layout.specs.Leaves.{RowAt}
use Rattle.summary.specs.Codes.{decode}
use Rattle.word_leaves.proofs.Ahead.{ahead_begun, ahead_more, ahead_none}
use Rattle.checks.proofs.Rows.{ChildTested, children_begun, child_tested, children_done}
use Rattle.checks.proofs.rules.free_rule.Goals as goal
use Rattle.checks.proofs.rules.free_rule.Goals.{After-stuck_at}

pub loop-child-init : goal.loop-child-init
loop-child-init c = (
  c.letters_at-n.ensures.upper_bound,
  λ M row o e.
      let laid = c.laid_at-rule.ensures c.args.table.now.frames.now M row o e in
      let long = c.letters_at-n.ensures.value row.rule.first row.rule.rest laid.spot in
      children_begun c.args.left.now (ahead_begun o c.args.i row e laid.spot (omega (arith, laid.kids))) long,
)

-- What the test of the next child tells.
tested : (c : After-stuck_at) (M : Table) (row : Row) → Opened c.args.table.now.frames.now c.args.table.now.numbers.now M → RowAt M c.args.i row
    → ChildTested c.args.table.now.frames.now c.args.left.now c.spot_past-p.result c.letters_at-n-in-loop-child.result
    (c.laid_at-rule.result.kids - (c.loop-child._child + 1)) row.rule.rest c.stuck_at.result
tested c M row o e =
    let l = c.loop-child.invariant.1 M row o e in
    let t = ahead_more l.ahead (omega arith) o.bytes l.long c.state_past-q.ensures.value c.spot_past-p.ensures in
    let w = t.child.after in
    let long = c.letters_at-n-in-loop-child.ensures.value w t.rest t.ahead.spot in
    let test = c.stuck_at.ensures w t.rest t.ahead.spot long ∙ ap (λ k. stuck (decode k) w) c.kept.ensures in
    child_tested c.args.left.now l t c.stuck_at.result test (omega arith) long

pub returns-then-stuck_at : goal.returns-then-stuck_at
returns-then-stuck_at c =
    λ M row o e. (tested (goal.at.returns-then-stuck_at c).After-stuck_at M row o e).found c.if-stuck_at.true

pub loop-child-preserved : goal.loop-child-preserved
loop-child-preserved c = (
  c.letters_at-n-in-loop-child.ensures.upper_bound,
  λ M row o e. (tested (goal.at.loop-child-preserved c).After-stuck_at M row o e).more c.if-stuck_at.false,
)

pub returns : goal.returns
returns c =
    λ M row o e. let l = c.loop-child.invariant.1 M row o e in children_done c.args.left.now l (ahead_none l.ahead (omega arith))
