-- `put_entries` meets its contract. The loop's invariant: what is kept of the rules from the i-th on is put. Assumes nothing.
use Prim.Native.Nat.{ℕ, ◌+◌, ◌*◌, ◌<◌}
use mathlib.Core.Path.{◌≡◌}
use lib.ListN.{get_or}
use Rattle.machine.specs.Machine.{Table}
use Rattle.table_numbers.specs.Storing.{NumbersPut, RulesNoted, entries_from}
use Rattle.table_numbers.proofs.put_entries.Given as goal

abbrev pub invariant-loop-i : goal.invariant-loop-i
invariant-loop-i l =
    (M : Table) → RulesNoted l.rules l.n M → ((k : ℕ) → k < M.states * 64 → get_or l.initial.numbers (592 + k) 0 ≡ 0)
    → NumbersPut (entries_from M l.i) 592 (M.states * 64) l.initial.numbers l.numbers
