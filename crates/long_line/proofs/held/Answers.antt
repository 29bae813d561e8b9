-- `held` meets its contract: all places, or the bytes that are held.
use mathlib.Core.Path.{sym, ◌∙◌}
use borrow.Author.Tests.{ltb-true, ltb-false}
use Rattle.long_line.proofs.Lines as law
use Rattle.long_line.proofs.held.Goals as goal

pub returns-then-is_long : goal.returns-then-is_long
returns-then-is_long c =
    λ F I cs bs m e h. law.places_lent h e m (ltb-true 0 _ (sym c.is_long.ensures ∙ c.if-is_long.true))

pub returns : goal.returns
returns c =
    λ F I cs bs m e h. law.bytes_lent h e _ c.front.ensures (ltb-false 0 _ (sym c.is_long.ensures ∙ c.if-is_long.false))
