-- `put_firsts` meets its contract. The loop's invariant: the firsts of the states before q are put. Assumes nothing.
use Prim.Native.Nat.{◌≤◌}
use Rattle.machine.specs.Machine.{Table}
use Rattle.table_numbers.specs.Storing.{RulesNoted}
use Rattle.table_numbers.proofs.FirstRules.{FirstsSo}
use Rattle.table_numbers.proofs.put_firsts.Given as goal

abbrev pub invariant-loop-q : goal.invariant-loop-q
invariant-loop-q l =
    (l.first ≤ l.n) × ((M : Table) → RulesNoted l.rules l.n M → FirstsSo M l.initial.numbers l.numbers l.q l.first)
