-- `settle` meets its contract. Invariant: what was witnessed is so still, and what was told. The measure is what is left to be known.
use Prim.Native.Nat.{◌-◌, ◌*◌}
use Rattle.text.specs.Limits.{states_most}
use Rattle.end_laws.specs.Ends.{ranks}
use Rattle.end_laws.specs.Meaning.{Witnessed}
use Rattle.layout.specs.Lent.{Means}
use Rattle.summary.specs.Codes.{side_of, K, summaries}
use Rattle.empty_words.specs.Blank.{EmptyTold}
use Rattle.end_summaries.proofs.settle.Given as goal

abbrev pub invariant-loop-table : goal.invariant-loop-table
invariant-loop-table l =
    Means l.table (λ M. (Witnessed M (side_of l.side) (K l.initial.values) → Witnessed M (side_of l.side) (K l.values))
    × (EmptyTold M (K l.initial.values) → EmptyTold M (K l.values)))

abbrev pub decreases-loop-table : goal.decreases-loop-table
decreases-loop-table l =
    3 * states_most - ranks (summaries l.values)
