-- `put_replaced` meets its contract.
use mathlib.Core.Path.{ap, ◌∙◌}
use mathlib.Core.List.{List}
use Prim.Native.Nat.{ℕ}
use native.Mathlib.Omega.{arith}
use lib.ListN.{set, length-set}
use Rattle.spelling.proofs.Replacing as law
use Rattle.spelling.proofs.put_replaced.Goals as goal

pub loop-i-preserved : goal.loop-i-preserved
loop-i-preserved c = (
  ap (λ (r : List ℕ). set r c.loop-i.i c.exchanged.result) c.loop-i.invariant.0
      ∙ law.replaced_more c.args.old c.args.new c.args.bytes.now c.args.room.now c.loop-i.i c.exchanged.result (omega arith) (omega
      arith) c.exchanged.ensures,
  simp length-set c.loop-i.invariant.1,
)
