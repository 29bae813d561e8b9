-- `same_fronts` meets its contract: no text is longer than the room, and the fronts are compared. Assumes nothing.
use Rattle.comparison.proofs.Fronts.{fronts_told}
use Rattle.comparison.proofs.same_fronts.Goals as goal

pub returns-then-m-le-TEXT : goal.returns-then-m-le-TEXT
returns-then-m-le-TEXT c =
    λ x y f g. fronts_told c.eq.result f g c.eq.ensures
