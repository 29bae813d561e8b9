-- `terms_of` meets its contract.
use borrow.Author.Rules.{rules}
use mathlib.Core.Path.{◌∙◌}
use mathlib.Core.List.{List}
use Prim.Native.Nat.{ℕ, ◌+◌}
use native.Mathlib.Omega.{arith}
use Rattle.terms.proofs.Spaces as law
use Rattle.terms.proofs.terms_of.Goals as goal

pub loop-at-init : goal.loop-at-init
loop-at-init c =
    omega (arith, law.spaces_none)

pub loop-at-preserved : goal.loop-at-preserved
loop-at-preserved c =
    let u : List ℕ = c.args.word.now in
    let e = law.piece u c.loop-at.at 224 c.loop-at.n c.from-n.result c.loop-at.invariant.1 (c.from-n.ensures ∙ c.spaces_in.ensures) in
    (search rules, e, omega (arith, e, law.most u (c.loop-at.at + 224)))

pub returns : goal.returns
returns c =
    law.all c.args.word.now c.loop-at.at c.loop-at.n c.from.result c.loop-at.invariant.1 (c.from.ensures ∙ c.spaces_in-2.ensures)
