-- `fill` meets its contract: the states passed have their numbers.
use mathlib.Core.Path.{◌≡◌}
use Prim.Native.Nat.{ℕ, ◌-◌, ◌<◌}
use lib.ListN.{get_or}
use Rattle.form_numbers.proofs.fill.Given as goal

abbrev pub invariant-loop-q : goal.invariant-loop-q
invariant-loop-q l =
    (p : ℕ) → p < l.q → get_or l.names p 0 ≡ get_or l.known (get_or l.rep p 0) 0 - 1
