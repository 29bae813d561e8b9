-- `symbols_part` meets its contract: the symbols of both lists are compared, then the lengths.
use mathlib.Core.Path.{◌≡◌, sym, ◌∙◌}
use native.Mathlib.Omega.{arith}
use lib.ListN.{length}
use Rattle.machine.specs.Machine.{Table}
use Rattle.layout.specs.Layout.{Opened}
use Rattle.same_symbols.specs.Parting.{AlikeFor}
use Rattle.same_symbols.proofs.Lists.{parted_nowhere, parted_at}
use Rattle.same_symbols.proofs.symbols_part.Goals as goal
use Rattle.same_symbols.proofs.symbols_part.Goals.{After-alike-i}

module _ (c : After-alike-i) (M N : Table) (o : Opened c.args.first.now.frames.now c.args.first.now.numbers.now M)
    (p : Opened c.args.second.now.frames.now c.args.second.now.numbers.now N) where
  mine : c.symbols-mine.result ≡ length M.arities
  mine = c.symbols-mine.ensures.meant_by c.args.first.now.frames.now M o

  others : c.symbols-others.result ≡ length N.arities
  others = c.symbols-others.ensures.meant_by c.args.second.now.frames.now N p

  compared : AlikeFor M.arities N.arities c.min.result c.alike-i.result
  compared =
      let m = mine in
      let n = others in
      c.alike-i.ensures c.args.first.now.numbers.now c.args.second.now.numbers.now M N o p (omega (arith, c.min.ensures)) (omega (arith, c.min.ensures))

pub returns-then-i-max : goal.returns-then-i-max
returns-then-i-max c =
    λ M N o p.
    let a = (goal.at.returns-then-i-max c).After-alike-i in
    sym (parted_nowhere (mine a M N o p) (others a M N o p) c.min.ensures (compared a M N o p) (c.if-i-max.true ∙ c.max.ensures))

pub returns-else-i-max : goal.returns-else-i-max
returns-else-i-max c =
    λ M N o p.
    let a = (goal.at.returns-else-i-max c).After-alike-i in
    sym (parted_at (mine a M N o p) (others a M N o p) c.min.ensures (compared a M N o p) (λ e. c.if-i-max.false (e ∙ sym c.max.ensures)))
