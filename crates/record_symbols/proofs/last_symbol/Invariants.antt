-- `last_symbol` meets its contract. The loop's invariant: looking from i on tells what is told of the whole list.
use mathlib.Core.Path.{◌≡◌}
use lib.ListN.{drop}
use Rattle.layout.specs.Layout.{Meant}
use Rattle.layout.specs.Lent.{Means}
use Rattle.records.specs.Symbols.{last_from, last_symbol}
use Rattle.record_symbols.proofs.last_symbol.Given as goal

abbrev pub invariant-loop-i : goal.invariant-loop-i
invariant-loop-i l =
    Means l.table (λ M. last_symbol M.arities ≡ last_from l.i (drop l.i M.arities))
