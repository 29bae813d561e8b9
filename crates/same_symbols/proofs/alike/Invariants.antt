-- `alike` meets its contract: the symbols passed have one arity in both tables.
use mathlib.Core.Path.{◌≡◌}
use mathlib.Core.List.{List}
use Prim.Native.Nat.{ℕ, ◌<◌, ◌≤◌}
use lib.ListN.{length, get_or}
use Rattle.machine.specs.Machine.{Table}
use Rattle.layout.specs.Layout.{Opened}
use Rattle.same_symbols.proofs.alike.Given as goal

abbrev pub invariant-loop-i : goal.invariant-loop-i
invariant-loop-i l =
    (I J : List ℕ) (M N : Table) → Opened l.frames I M → Opened l.frames2 J N → l.n ≤ length M.arities → l.n ≤ length N.arities
    → (j : ℕ) → j < l.i → get_or M.arities j 0 ≡ get_or N.arities j 0
