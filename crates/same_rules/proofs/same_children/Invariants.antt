-- `same_children` meets its contract: the rules passed match, and the rows do where all rules of q are passed.
use mathlib.Core.List.{List}
use Prim.Native.Nat.{ℕ, ◌<◌}
use Rattle.machine.specs.Machine.{Row, Table}
use Rattle.machine.specs.Twins.{Match}
use Rattle.layout.specs.Layout.{Opened}
use Rattle.layout.specs.Leaves.{RulesOf}
use Rattle.layout.specs.Kids.{Alike}
use Rattle.same_words.specs.Words.{Any}
use Rattle.same_rules.specs.Compared.{RowOf}
use Rattle.same_rules.proofs.Found.{MatchFor}
use Rattle.same_rules.proofs.same_children.Given as goal

abbrev pub invariant-loop-i : goal.invariant-loop-i
invariant-loop-i l =
    (F G : List ℕ) (M N : Table) → Opened F l.numbers M → Opened G l.numbers2 N → RulesOf M l.q l.fn.mine.from l.fn.mine.to → l.r < N.states
    → Match M N Any l.q l.r → (k : ℕ) (a : Row) → RowOf M l.q k a → k < l.i → MatchFor (Alike l.map l.map2) M N l.q l.r a.symbol
