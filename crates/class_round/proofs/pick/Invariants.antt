-- `pick` meets its contract: no state passed leads q.
use mathlib.Core.Path.{◌≡◌}
use Prim.Native.Nat.{ℕ, ◌<◌}
use Rattle.machine.specs.Machine.{Table}
use Rattle.layout.specs.Layout.{Opened}
use Rattle.class_round.specs.Round.{RoundBegun, Leads}
use Rattle.class_round.proofs.pick.Given as goal

abbrev pub invariant-loop-r : goal.invariant-loop-r
invariant-loop-r l =
    (M : Table) (n : ℕ) → Opened l.table.frames.now l.table.numbers.now M → n ≡ M.states → l.q < n → RoundBegun l.first M n l.rep → (p : ℕ) → p < l.r → Leads M
    l.rep
    l.next l.q p → ⊥
