-- `is_begun` meets its contract: some bytes are held no more, or the line tells.
use mathlib.Core.Path.{sym, ◌∙◌}
use borrow.Author.Tests.{ltb-true, ltb-false}
use Rattle.long_line.proofs.Lines as law
use Rattle.long_line.proofs.is_begun.Goals as goal

pub returns-then-is_long : goal.returns-then-is_long
returns-then-is_long c =
    λ F I cs T k h. c.if-is_long.true ∙ law.begun_past h (ltb-true 0 _ (sym c.is_long.ensures ∙ c.if-is_long.true))

pub returns-else-is_long : goal.returns-else-is_long
returns-else-is_long c =
    λ F I cs T k h. law.begun_held h (ltb-false 0 _ (sym c.is_long.ensures ∙ c.if-is_long.false))
