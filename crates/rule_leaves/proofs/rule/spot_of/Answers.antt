-- `spot_of` meets its contract: the place is read off what is kept by the rule's number.
use mathlib.Core.Path.{ap}
use Prim.Native.Nat.{ℕ, ◌%◌}
use native.Mathlib.Omega.{arith}
use Rattle.rule_leaves.proofs.Listing.{spot_listed}
use Rattle.rule_leaves.proofs.Numbered.{listed_place}
use Rattle.rule_leaves.proofs.rule.spot_of.Goals as goal

pub returns-clause-by_index : goal.returns-clause-by_index
returns-clause-by_index c =
    λ F M r o e. spot_listed o c.args.i r e _ (ap (λ (n : ℕ). n % 16384) c.number.ensures)

pub returns-clause-place : goal.returns-clause-place
returns-clause-place c =
    λ F M r o e. omega (arith, c.number.ensures, listed_place o c.args.i r e)
