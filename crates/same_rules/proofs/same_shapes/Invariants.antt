-- `same_shapes` meets its contract: the rules passed match, and the rows do where r has as many rules.
use Prim.Native.Nat.{ℕ, ◌<◌}
use Rattle.machine.specs.Machine.{Row, Table}
use Rattle.layout.specs.Layout.{Opened}
use Rattle.layout.specs.Leaves.{RulesOf}
use Rattle.same_words.specs.Words.{Any}
use Rattle.same_rules.specs.Compared.{RowOf}
use Rattle.same_rules.proofs.Found.{MatchFor}
use Rattle.same_rules.proofs.same_shapes.Given as goal

abbrev pub invariant-loop-i : goal.invariant-loop-i
invariant-loop-i l =
    (M N : Table) → Opened l.first.frames.now l.first.numbers.now M → Opened l.second.frames.now l.second.numbers.now N → RulesOf M l.q l.mine.from l.mine.to →
    l.r < N.states
    → (k : ℕ) (a : Row) → RowOf M l.q k a → k < l.i → MatchFor Any M N l.q l.r a.symbol
