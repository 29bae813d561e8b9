-- `add_states` meets its contract. Invariant: the rules of the states from place i on were tried.
use Rattle.summary.specs.Codes.{side_of}
use Rattle.summary.specs.Grown.{Grown}
use Rattle.end_summaries.specs.Steps.{Adds, RulesOfListed}
use Rattle.end_summaries.proofs.adding.add_states.Given as goal

abbrev pub invariant-loop-i : goal.invariant-loop-i
invariant-loop-i l =
    Grown l.initial.values l.values l.k × Adds l.table.frames.now l.table.numbers.now (side_of l.side) (RulesOfListed l.order l.i l.n)
    l.initial.values l.values l.k
