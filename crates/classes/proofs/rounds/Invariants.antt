-- `rounds` meets its contract: twins stay together; numbers only rise; where nothing changed the classes are found.
use mathlib.Core.Path.{◌≡◌}
use lib.ListN.{length}
use Rattle.text.specs.Limits.{states_most}
use Rattle.layout.specs.Layout.{Meant}
use Rattle.layout.specs.Lent.{Means}
use Rattle.class_round.specs.Round.{RoundBegun, Low}
use Rattle.classes.specs.Taking.{slack}
use Rattle.classes.proofs.Settled.{Together}
use Rattle.classes.proofs.rounds.Given as goal

abbrev pub invariant-loop-next : goal.invariant-loop-next
invariant-loop-next l =
    (length l.next ≡ states_most) × (length l.rep ≡ states_most) × Low l.rep × Means l.table (λ M. l.n ≡ M.states → Together M l.rep)
    × Means l.table (λ M. l.n ≡ M.states → RoundBegun l.first M l.n l.rep)

abbrev pub decreases-loop-next : goal.decreases-loop-next
decreases-loop-next l =
    slack l.rep
