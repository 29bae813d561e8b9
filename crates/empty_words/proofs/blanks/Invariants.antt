-- `blanks` meets its contract. Invariant: what is told is true. The measure is what is left to be known.
use Prim.Native.Nat.{◌-◌, ◌*◌}
use Rattle.text.specs.Limits.{states_most}
use Rattle.end_laws.specs.Ends.{ranks}
use Rattle.layout.specs.Layout.{MeantBy}
use Rattle.summary.specs.Codes.{summaries}
use Rattle.empty_words.specs.Blank.{Blanks}
use Rattle.empty_words.proofs.blanks.Given as goal

abbrev pub invariant-loop-numbers : goal.invariant-loop-numbers
invariant-loop-numbers l =
    MeantBy l.numbers (λ M. Blanks M l.values)

abbrev pub decreases-loop-numbers : goal.decreases-loop-numbers
decreases-loop-numbers l =
    3 * states_most - ranks (summaries l.values)
