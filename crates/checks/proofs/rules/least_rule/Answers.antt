-- `least_rule` meets its contract.
use native.Mathlib.Omega.{arith}
use mathlib.Core.Path.{ap, ◌∙◌}
use lib.ListN.{length, get_elem?}
use Rattle.end_laws.specs.Companion.{least}
use Rattle.layout.specs.Layout.{Opened}
use Rattle.layout.proofs.Means.{read_by}
use Rattle.summary.specs.Codes.{K}
use Rattle.checks.proofs.Tests.{least_on, least_here, least_end}
use Rattle.checks.proofs.Rows.{free_at, row_test}
use Rattle.checks.proofs.Pushing.{free_rows}
use Rattle.checks.proofs.rules.least_rule.Goals as goal

pub returns-then-not-some_narrow : goal.returns-then-not-some_narrow
returns-then-not-some_narrow c =
    λ M o. free_rows (K c.args.left.now) (c.some_narrow.ensures c.if-not-some_narrow.true) (get_elem? M.rows) (length M.rows) 0

pub loop-i-init : goal.loop-i-init
loop-i-init c = (
  c.rules-i-end.ensures.upper_bound,
  λ M o. (c.rules-i-end.ensures.meant_by c.args.table.now.frames.now M o, ap (λ n. least (free_at M c.args.left.now) n 0) (omega arith)),
)

pub returns-then-not-free_rule : goal.returns-then-not-free_rule
returns-then-not-free_rule c =
    λ M o.
    let as_read : Opened c.args.table.now.frames.now c.in-Ok.numbers.now M = read_by c.in-Ok.ensures.1.same o in
    let v = c.loop-i.invariant.1 M as_read in
    let test = row_test M c.args.left.now c.loop-i.i c.free_rule.result (omega (arith, v.0)) (λ row e.
    c.free_rule.ensures M row as_read e) in
    let whole = v.1 ∙ ap (λ k. least (free_at M c.args.left.now) k 0) v.0 in
    least_here (free_at M c.args.left.now) c.rules-i-end.result c.loop-i.i whole (omega arith) test c.if-not-free_rule.true

pub loop-i-preserved : goal.loop-i-preserved
loop-i-preserved c = (
  c.loop-i.invariant.0,
  λ M o.
      let v = c.loop-i.invariant.1 M o in
      let test = row_test M c.args.left.now c.loop-i.i c.free_rule.result (omega (arith, v.0)) (λ row e.
      c.free_rule.ensures M row o e) in
      (v.0, least_on (free_at M c.args.left.now) c.rules-i-end.result c.loop-i.i v.1 (omega arith) test c.if-not-free_rule.false),
)

pub returns : goal.returns
returns c =
    λ M o.
    let as_read : Opened c.args.table.now.frames.now c.in-Ok.numbers.now M = read_by c.in-Ok.ensures.1.same o in
    let v = c.loop-i.invariant.1 M as_read in
    let whole = v.1 ∙ ap (λ n. least (free_at M c.args.left.now) n 0) v.0 in
    least_end (free_at M c.args.left.now) c.rules-i-end.result c.loop-i.i whole (omega arith)
