-- `blank_states` meets its contract. Invariant: the states from place i on were tried.
use Rattle.summary.specs.Grown.{Grown}
use Rattle.empty_words.specs.Blank.{Marks, ListedBetween}
use Rattle.empty_words.proofs.blank_states.Given as goal

abbrev pub invariant-loop-i : goal.invariant-loop-i
invariant-loop-i l =
    Grown l.initial.values l.values l.k × Marks l.numbers (ListedBetween l.order l.i l.n) l.initial.values l.values l.k
