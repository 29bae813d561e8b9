-- `shape::check` meets its contract: 6 for the size, then the tree at place 0, then 11 for what stands behind it. Assumes nothing.
use mathlib.Core.Path.{◌≡◌, sym, ◌∙◌}
use mathlib.Core.Logic.{⊎_elim}
use mathlib.Core.Bool.{Bool, false}
use Prim.Native.Nat.{ℕ}
use Rattle.std.proofs.Common.{eqb}
use borrow.Author.Tests.{eqb-true, eqb-false}
use Rattle.std.proofs.lemmas.Result.{err_from_is_err_and}
use Rattle.shape.proofs.Whole as whole
use Rattle.shape.proofs.check.Goals as goal

-- Bytes that are not empty are some.
some : {n : ℕ} {b : Bool} → b ≡ eqb n 0 → b ≡ false → n ≡ 0 → ⊥
some e f = eqb-false _ _ (sym e ∙ f)

pub returns-then-is_empty : goal.returns-then-is_empty
returns-then-is_empty c =
    λ M o. c.refuse.ensures
    ∙ ⊎_elim (λ w. whole.too_few M.arities c.args.tree.now (eqb-true _ _ (sym c.is_empty.ensures ∙ w)))
    (λ w. whole.too_many M.arities c.args.tree.now (some c.is_empty.ensures w.0) w.1) c.then-is_empty.either

pub returns-in_err-next : goal.returns-in_err-next
returns-in_err-next c =
    λ M o.
    let no = err_from_is_err_and c.from_residual.result c.from_residual.ensures.1 in
    rw (no.1, no.2) (whole.whole_refused M.arities c.args.tree.now (some c.is_empty.ensures c.if-is_empty.false) c.if-tree-gt-TREE.false _
    (sym c.in_err-next.was ∙ c.tree_at.ensures.by_index _ M o (c.symbols-symbols.ensures.meant_by _ M o)))

pub returns-then-next-tree : goal.returns-then-next-tree
returns-then-next-tree c =
    λ M o. c.refuse-then-next-tree.ensures
    ∙ whole.whole_behind M.arities c.args.tree.now (some c.is_empty.ensures c.if-is_empty.false) c.if-tree-gt-TREE.false _ c.if-next-tree.true
    (sym c.in_ok-next.was ∙ c.tree_at.ensures.by_index _ M o (c.symbols-symbols.ensures.meant_by _ M o))

pub returns : goal.returns
returns c =
    λ M o. whole.whole_ends M.arities c.args.tree.now (some c.is_empty.ensures c.if-is_empty.false) c.if-tree-gt-TREE.false _ c.if-next-tree.false
    (sym c.in_ok-next.was ∙ c.tree_at.ensures.by_index _ M o (c.symbols-symbols.ensures.meant_by _ M o))
