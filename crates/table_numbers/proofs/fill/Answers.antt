-- `fill` meets its contract: the parts of the numbers are put one after the other. Assumes nothing.
use mathlib.Core.Path.{ap}
use native.Mathlib.Omega.{arith}
use Rattle.table_numbers.proofs.Filling.{filled}
use Rattle.table_numbers.proofs.fill.Goals as goal

pub returns : goal.returns
returns c =
    λ M is rules.
    filled c.args.numbers.now c.told-numbers c.requires.0 c.requires.1 is rules
    c.put_head.ensures
    (c.put_firsts.ensures M rules)
    c.put_rows.ensures
    c.clear.ensures
    (c.put_entries.ensures M rules (λ k l. c.clear.ensures.here k (omega (arith, ap (λ x. x.states) is))))
