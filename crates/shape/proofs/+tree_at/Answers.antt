-- `shape::tree_at` meets its contract.
use mathlib.Core.Path.{◌≡◌, sym, ◌∙◌}
use Prim.Native.Nat.{◌+◌, ◌-◌, ◌<◌}
use native.Mathlib.Omega.{arith}
use lib.ListN.{length, drop}
use Rattle.std.proofs.lemmas.Result.{err_from_is_err_and}
use Rattle.trees.specs.Shape.{tree_at}
use Rattle.shape.proofs.Steps as steps
use Rattle.shape.proofs.+tree_at.Goals as goal

pub returns-then-at-tree-clause-by_index : goal.returns-then-at-tree-clause-by_index
returns-then-at-tree-clause-by_index t c =
    λ I M o known. c.refuse.ensures ∙ steps.stops_early c.args.levels M.arities c.args.tree.now c.args.at c.if-at-tree.true

pub returns-then-symbols-f-clause-by_index : goal.returns-then-symbols-f-clause-by_index
returns-then-symbols-f-clause-by_index t c =
    let here : c.args.at < length c.args.tree.now = omega (arith, c.requires, c.if-at-tree.false) in
    λ I M o known. c.refuse-then-symbols-f.ensures
    ∙ steps.unknown c.args.levels c.args.symbols c.args.at c.from-f.result M.arities c.args.tree.now here c.from-f.ensures known c.if-symbols-f.true

pub returns-then-levels-eq0-clause-by_index : goal.returns-then-levels-eq0-clause-by_index
returns-then-levels-eq0-clause-by_index t c =
    let here : c.args.at < length c.args.tree.now = omega (arith, c.requires, c.if-at-tree.false) in
    λ I M o known. c.refuse-then-levels-eq0.ensures
    ∙ steps.too_deep c.args.levels c.args.symbols c.args.at c.from-f.result M.arities c.args.tree.now here c.from-f.ensures known
    c.if-symbols-f.false c.if-levels-eq0.true

pub loop-child-init : goal.loop-child-init
loop-child-init t c =
    let here : c.args.at < length c.args.tree.now = omega (arith, c.requires, c.if-at-tree.false) in (
      λ I M o known. steps.node_below c.args.levels c.args.symbols c.args.at c.from-f.result M.arities c.args.tree.now here
          c.from-f.ensures known (c.arity-children.result - 0) c.if-symbols-f.false c.if-levels-eq0.false
          (omega (arith, c.arity-children.ensures.by_index I M o (omega (arith, known, c.if-symbols-f.false)))),
      omega arith,
    )

pub returns-in_err-next-clause-by_index : goal.returns-in_err-next-clause-by_index
returns-in_err-next-clause-by_index t c =
    λ I M o known.
    let here = c.loop-child.invariant.0 I M o known in
    let told = c.tree_at.ensures.by_index I M o known in
    let no = err_from_is_err_and c.from_residual.result c.from_residual.ensures.1 in
    rw (no.1, no.2) (steps.first_refused (tree_at (c.args.levels - 1) M.arities) (c.arity-children.result - c.loop-child._child) c.loop-child.next
    (drop c.loop-child.next c.args.tree.now) _ (omega (arith, c.loop-child-test.true)) (sym c.in_err-next.was ∙ told) ∙ sym here)

pub loop-child-preserved : goal.loop-child-preserved
loop-child-preserved t c = (
  λ I M o known.
      let one : c.arity-children.result - c.loop-child._child - 1 ≡ c.arity-children.result - (c.loop-child._child + 1) = omega arith in
      let told = c.tree_at.ensures.by_index I M o known in
      let passed = steps.first_ends (c.args.levels - 1) M.arities c.args.tree.now (c.arity-children.result - c.loop-child._child) c.loop-child.next
      c.in_ok-next.next (omega (arith, c.loop-child-test.true)) (sym c.in_ok-next.was ∙ told) in
      c.loop-child.invariant.0 I M o known ∙ rw one at passed,
  c.in_ok-next.ensures.inside,
)

pub returns-clause-by_index : goal.returns-clause-by_index
returns-clause-by_index t c =
    λ I M o known.
    steps.none_end (tree_at (c.args.levels - 1) M.arities) (c.arity-children.result - c.loop-child._child) c.loop-child.next
    (drop c.loop-child.next c.args.tree.now) (omega (arith, c.loop-child-test.false)) ∙ sym (c.loop-child.invariant.0 I M o known)
