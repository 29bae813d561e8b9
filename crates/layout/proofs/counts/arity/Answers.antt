-- `arity` meets its contract: the arity is the second byte of the symbol's frame.
use mathlib.Core.Path.{◌∙◌}
use Rattle.layout.proofs.Heads.{arity}
use Rattle.layout.proofs.counts.arity.Goals as goal

pub returns-clause-by_index : goal.returns-clause-by_index
returns-clause-by_index c =
    λ I M o h. c.from.ensures ∙ c.byte.ensures ∙ arity o c.args.f h
