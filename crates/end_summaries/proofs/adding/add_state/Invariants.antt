-- `add_state` meets its contract. Invariant: the rules of the state from number i on were tried.
use Prim.Native.Nat.{◌≤◌}
use Rattle.text.specs.Limits.{rows_most}
use Rattle.layout.specs.Lent.{Means}
use Rattle.layout.specs.Leaves.{RulesOf}
use Rattle.summary.specs.Codes.{side_of}
use Rattle.summary.specs.Grown.{Grown}
use Rattle.end_summaries.specs.Steps.{Tried, RulesBetween}
use Rattle.end_summaries.proofs.adding.add_state.Given as goal

abbrev pub invariant-loop-i : goal.invariant-loop-i
invariant-loop-i l =
    (l.i ≤ rows_most) × (l.i ≤ l.initial.i) × Grown l.initial.values l.values l.k
    × Means l.table (λ M. RulesOf M l.q l.i-start l.initial.i × Tried M (side_of l.side) (RulesBetween l.i l.initial.i) l.initial.values l.values
    l.k)
