-- `least_rule` meets its contract. Invariant: the search from i on finds what the whole search finds.
use mathlib.Core.Path.{◌≡◌}
use Prim.Native.Nat.{◌-◌, ◌≤◌}
use lib.ListN.{length}
use Rattle.text.specs.Limits.{rows_most}
use Rattle.end_laws.specs.Companion.{least}
use Rattle.layout.specs.Lent.{Means}
use Rattle.checks.proofs.Rows.{free_at}
use Rattle.checks.proofs.rules.least_rule.Given as goal

abbrev pub invariant-loop-i : goal.invariant-loop-i
invariant-loop-i l =
    (l.i-end ≤ rows_most)
    × Means l.table (λ M. (l.i-end ≡ length M.rows) × (least (free_at M l.left) (l.i-end - l.i) l.i ≡ least (free_at M l.left) l.i-end 0))
