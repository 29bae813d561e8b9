-- `rule_value` meets its contract. Invariant: what is gathered, beside the children that are left, is the rule's summary.
use Prim.Native.Nat.{◌-◌, ◌<◌}
use Rattle.machine.specs.Machine.{Row, Table}
use Rattle.layout.specs.Layout.{Opened}
use Rattle.layout.specs.Leaves.{RowAt}
use Rattle.summary.specs.Codes.{side_of, decode}
use Rattle.rule_summary.proofs.Walks.{Gathering}
use Rattle.rule_summary.proofs.rule_value.Given as goal

abbrev pub invariant-loop-child : goal.invariant-loop-child
invariant-loop-child l =
    (l.n < 256) × ((M : Table) (row : Row) → Opened l.table.frames.now l.table.numbers.now M → RowAt M l.i row → Gathering (side_of l.side) l.table.frames.now
    l.values l.p l.n
    (l._child-end - l._child)
    (decode l.x) row.rule)
