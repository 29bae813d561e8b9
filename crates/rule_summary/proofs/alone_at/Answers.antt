-- `alone_at` meets its contract: the word is empty, or it has an end.
use mathlib.Core.Path.{sym, ◌∙◌}
use Rattle.summary.specs.Codes.{side_of}
use Rattle.summary.proofs.Tests.{end_kept_empty}
use Rattle.rule_summary.proofs.alone_at.Goals as goal

pub returns-then-n-eq0 : goal.returns-then-n-eq0
returns-then-n-eq0 c =
    λ u cs s e. end_kept_empty (side_of c.args.side) u (sym e ∙ c.if-n-eq0.true)
