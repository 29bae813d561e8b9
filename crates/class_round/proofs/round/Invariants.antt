-- `round` meets its contract: each state passed has the least state that the round leaves with it.
use mathlib.Core.Path.{◌≡◌}
use lib.ListN.{length}
use Rattle.text.specs.Limits.{states_most}
use Rattle.layout.specs.Layout.{Meant}
use Rattle.layout.specs.Lent.{Means}
use Rattle.class_round.specs.Round.{RoundBegun, NumbersRaised, Rounded}
use Rattle.class_round.proofs.round.Given as goal

abbrev pub invariant-loop-q : goal.invariant-loop-q
invariant-loop-q l =
    (length l.next ≡ states_most) × NumbersRaised l.q l.rep l.next
    × Means l.table (λ M. l.n ≡ M.states → RoundBegun l.first M l.n l.rep → Rounded M l.q l.rep l.next)
