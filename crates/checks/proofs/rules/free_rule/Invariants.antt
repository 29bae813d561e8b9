-- `free_rule` meets its contract. Invariant: the children that are left tell what all tell.
use Prim.Native.Nat.{◌-◌, ◌<◌}
use Rattle.machine.specs.Machine.{Row, Table}
use Rattle.layout.specs.Layout.{Opened}
use Rattle.layout.specs.Leaves.{RowAt}
use Rattle.checks.proofs.Rows.{ChildrenLeft}
use Rattle.checks.proofs.rules.free_rule.Given as goal

abbrev pub invariant-loop-child : goal.invariant-loop-child
invariant-loop-child l =
    (l.n < 256) × ((M : Table) (row : Row) → Opened l.table.frames.now l.table.numbers.now M → RowAt M l.i row → ChildrenLeft l.table.frames.now l.left l.p l.n
    (l._child-end - l._child)
    row.rule.rest)
