-- `kept_for` meets its contract: nothing is kept for a state or a symbol that the table does not have.
use mathlib.Core.Path.{refl, sym, subst}
use native.Mathlib.Omega.{arith}
use Rattle.layout.specs.Layout.{Opened}
use Rattle.rule_leaves.proofs.Numbered.{none_kept}
use Rattle.rule_leaves.proofs.kept.kept_for.Goals as goal
use Rattle.rule_leaves.proofs.kept.kept_for.Goals.{then-states-q-via-then-states-q, then-states-q-via-else-states-q+then-f-ge-SYMBOLS}

pub returns-then-states-q : goal.returns-then-states-q
returns-then-states-q c =
    λ F M o. none_kept o.limited c.args.q c.args.f 0 refl (λ hq hf. elim c.then-states-q.branch [
      | then-states-q-via-then-states-q w ↦ absurd
          (omega (arith, c.states.ensures.meant_by F M (subst (λ I. Opened F I M) (sym c.in-Ok.ensures.1.same) o), hq, w.if-states-q.true))
      | then-states-q-via-else-states-q+then-f-ge-SYMBOLS w ↦ absurd (omega (arith, o.limited.symbols, hf, w.if-f-ge-SYMBOLS.true))
    ])

pub returns : goal.returns
returns c =
    λ F M o.
    let p = subst (λ I. Opened F I M) (sym c.in-Ok.ensures.1.same) o in
    c.kept_for_full.ensures F M p (omega (arith, c.states.ensures.meant_by F M p, c.if-states-q.false))
