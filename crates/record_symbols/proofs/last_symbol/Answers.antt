-- `last_symbol` meets its contract.
use mathlib.Core.Path.{◌≡◌, sym, ◌∙◌}
use Prim.Native.Nat.{◌+◌}
use native.Mathlib.Omega.{arith}
use lib.ListN.{length}
use Rattle.layout.specs.Layout.{Meant}
use Rattle.record_symbols.proofs.Lasts as law
use Rattle.record_symbols.proofs.last_symbol.Goals as goal
use Rattle.record_symbols.proofs.last_symbol.Goals.{After-saturating_sub-last}

-- The list has one symbol more than stand before the last.
many : (c : After-saturating_sub-last) → Meant c.args.table.now.frames.now c.args.table.now.numbers.now
    (λ M. length M.arities ≡ c.saturating_sub-last.result + 1)
many c M o = omega (arith, c.symbols.ensures.meant_by c.args.table.now.frames.now M o, o.limited.some_symbol, c.saturating_sub-last.ensures)

pub loop-i-init : goal.loop-i-init
loop-i-init c =
    λ M o. law.last_begins M.arities

pub returns-then-arity-ne2 : goal.returns-then-arity-ne2
returns-then-arity-ne2 c =
    λ M o.
    let n = many (goal.at.returns-then-arity-ne2 c).After-saturating_sub-last M o in
    let k = c.arity.ensures.by_index c.args.table.now.numbers.now M o (omega (arith, n)) in
    c.wrong_at.ensures
    ∙ sym (c.loop-i.invariant M o ∙ law.last_wrong M.arities c.loop-i.i (omega (arith, n)) (λ e. c.if-arity-ne2.true (k ∙ e)))

pub loop-i-preserved : goal.loop-i-preserved
loop-i-preserved c =
    λ M o.
    let n = many (goal.at.loop-i-preserved c).After-saturating_sub-last M o in
    let k = c.arity.ensures.by_index c.args.table.now.numbers.now M o (omega (arith, n)) in
    c.loop-i.invariant M o ∙ law.last_next M.arities c.loop-i.i (omega (arith, n)) (sym k ∙ c.if-arity-ne2.false)

pub returns-then-arity-ne0 : goal.returns-then-arity-ne0
returns-then-arity-ne0 c =
    λ M o.
    let n = many (goal.at.returns-then-arity-ne0 c).After-saturating_sub-last M o in
    let k = c.arity-2.ensures.by_index c.args.table.now.numbers.now M o (omega (arith, n)) in
    c.wrong_at-then-arity-ne0.ensures
    ∙ sym (law.last_left M.arities _ c.loop-i.i (omega (arith, n)) (c.loop-i.invariant M o) ∙ law.last_strange M.arities c.saturating_sub-last.result
    (omega (arith, n)) (λ e. c.if-arity-ne0.true (k ∙ e)))

pub returns : goal.returns
returns c =
    λ M o.
    let n = many (goal.at.returns c).After-saturating_sub-last M o in
    let k = c.arity-2.ensures.by_index c.args.table.now.numbers.now M o (omega (arith, n)) in
    sym (law.last_left M.arities _ c.loop-i.i (omega (arith, n)) (c.loop-i.invariant M o) ∙ law.last_told_lem M.arities c.saturating_sub-last.result
    (omega (arith, n)) (sym k ∙ c.if-arity-ne0.false))
