-- `lettered` meets its contract.
use native.Mathlib.Omega.{arith}
use mathlib.Core.Path.{ap, ◌∙◌}
use Prim.Native.Nat.{◌+◌}
use Rattle.summary.specs.Codes.{summary_told}
use Rattle.summary.proofs.Tests.{letter_alone}
use Rattle.summary.proofs.Summary.lettered.Goals as goal

pub returns : goal.returns
returns c =
    ap (λ n. summary_told (n + 1)) c.from.ensures ∙ letter_alone c.args.a (omega arith)
