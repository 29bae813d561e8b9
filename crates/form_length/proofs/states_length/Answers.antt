-- `states_length` meets its contract: the length of the lines of the states passed.
use mathlib.Core.Path.{◌≡◌, refl, ap, ◌∙◌}
use Prim.Native.Nat.{ℕ, zero}
use native.Mathlib.Omega.{arith}
use lib.ListN.{length, take}
use Rattle.machine.specs.Form.{renumbered}
use Rattle.text.specs.Writing.{row_lines}
use Rattle.form_length.proofs.Lengths.{states_longer}
use Rattle.form_length.proofs.states_length.Goals as goal

pub loop-i-init : goal.loop-i-init
unfolding renumbered row_lines
loop-i-init c =
    (omega arith, λ F M number o l. refl)

pub loop-i-preserved : goal.loop-i-preserved
loop-i-preserved c = (
  omega (arith, c.lines_length-sum.ensures.upper_bound, c.loop-i.invariant.0),
  λ F M number o l.
      let own = c.rules_of-own.ensures.meant_by F M o in
      states_longer number M c.args.order.now c.loop-i.i c.from.result c.rules_of-own.result.from c.rules_of-own.result.to
      (omega arith) (c.from.ensures ∙ c.byte.ensures) own
      (c.loop-i.invariant.1 F M number o (omega arith)) (c.lines_length-sum.ensures.meant_by F M o own.ordered own.few),
)

pub returns-clause-states_long : goal.returns-clause-states_long
returns-clause-states_long c =
    let e : c.loop-i.i ≡ c.args.n = omega arith in
    λ F M number o l. c.loop-i.invariant.1 F M number o (omega arith) ∙ ap
    (λ (k : ℕ). length (row_lines (renumbered number M.rows zero (take k c.args.order.now)))) e
