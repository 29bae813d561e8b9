-- `first_from` meets its contract.
use native.Mathlib.Omega.{arith}
use Prim.Native.Nat.{◌/◌, ◌%◌, ◌<◌, ◌≤◌}
use mathlib.Core.Path.{◌≡◌, ◌∙◌}
use lib.ListN.{get_or}
use Rattle.head_frames.specs.Staged.{blank}
use Rattle.table_numbers.proofs.FirstRules.{passed_all, passed_to, passed_one}
use Rattle.table_numbers.proofs.first_from.Goals as goal

pub returns-then-q-state_of-clause-rules_passed : goal.returns-then-q-state_of-clause-rules_passed
returns-then-q-state_of-clause-rules_passed c =
    let s : c.args.q ≤ (get_or c.args.rules.now c.loop-i.i blank).row / 8388608 % 64 = omega (arith, c.if-q-state_of.true, c.state_of.ensures) in
    λ M rules. record { below = c.loop-i.invariant M rules; none = passed_to rules _ c.loop-i.i c.loop-i-test.true s }

pub loop-i-preserved : goal.loop-i-preserved
loop-i-preserved c =
    let s : (get_or c.args.rules.now c.loop-i.i blank).row / 8388608 % 64 < c.args.q = omega (arith, c.if-q-state_of.false, c.state_of.ensures) in
    λ M rules p h. c.loop-i.invariant M rules p h ∙ passed_one rules _ c.loop-i.i c.loop-i-test.true s p h

pub returns-clause-rules_passed : goal.returns-clause-rules_passed
returns-clause-rules_passed c =
    let e : c.loop-i.i ≡ c.args.n = omega arith in
    let below = rw e at c.loop-i.invariant in
    λ M rules. record { below = below M rules; none = passed_all rules _ c.args.n (omega arith) }
