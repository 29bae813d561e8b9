-- `first_from` meets its contract. The loop's invariant: the rules before the i-th are passed. Assumes nothing.
use Prim.Native.Nat.{ℕ, ◌+◌, ◌≤◌}
use mathlib.Core.Path.{◌≡◌}
use lib.ListN.{drop}
use Rattle.machine.specs.Machine.{Table}
use Rattle.layout.specs.Layout.{rows_before}
use Rattle.table_numbers.specs.Storing.{RulesNoted}
use Rattle.table_numbers.proofs.first_from.Given as goal

abbrev pub invariant-loop-i : goal.invariant-loop-i
invariant-loop-i l =
    (M : Table) → RulesNoted l.rules l.n M → (p : ℕ) → l.q ≤ p → l.from + rows_before p (drop l.from M.rows) ≡ l.i + rows_before p (drop l.i M.rows)
