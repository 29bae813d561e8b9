-- `put_entries` meets its contract.
use native.Mathlib.Omega.{arith}
use Prim.Native.Nat.{◌+◌, ◌-◌}
use mathlib.Core.Path.{◌≡◌, refl}
use Rattle.table_numbers.proofs.Entries.{entries_none, entries_more}
use Rattle.table_numbers.proofs.put_entries.Goals as goal

pub loop-i-init : goal.loop-i-init
loop-i-init c = λ M rules clear. entries_none rules _ clear

pub loop-i-preserved : goal.loop-i-preserved
loop-i-preserved c =
    let next : c.loop-i.i ≡ c.loop-i.i - 1 + 1 = omega arith in
    λ M rules clear. entries_more rules (c.loop-i.i - 1) c.loop-i.i next (omega arith) c.told-numbers (c.loop-i.invariant M rules clear) _ _
    c.key_of.ensures.0 refl
