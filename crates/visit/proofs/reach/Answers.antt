-- `reach` meets its contract: the visit with each state as a class of its own.
use native.Mathlib.Omega.{arith}
use lib.ListN.{length-take}
use Rattle.text.specs.Limits.{states_most}
use Rattle.visit.proofs.Reaching.{reaches, own_low, listing_low}
use Rattle.visit.proofs.reach.Goals as goal

pub returns : goal.returns
returns c =
    λ F M o.
    reaches o c.own.result c.own.ensures (omega (arith, length-take states_most c.visit.result.known))
    (listing_low (own_low c.own.result (omega arith) c.own.ensures) (c.visit.ensures F M o))
