-- `put_replaced` meets its contract. The loop's invariant: the first i bytes, one of them replaced, stand at the room's front.
use mathlib.Core.Path.{◌≡◌}
use Prim.Native.Nat.{ℕ}
use lib.ListN.{length}
use Rattle.spelling.proofs.Replacing as law
use Rattle.spelling.proofs.put_replaced.Given as goal

abbrev pub invariant-loop-i : goal.invariant-loop-i
invariant-loop-i l =
    (l.room ≡ law.replaced_for l.i l.old l.new l.bytes l.initial.room) × (length l.room ≡ length l.initial.room)
