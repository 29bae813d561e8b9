-- `end_at` meets its contract: the word's end is its first or its last letter.
use native.Mathlib.Omega.{arith}
use mathlib.Core.Path.{ap, ◌∙◌}
use Prim.Native.Nat.{◌-◌, ◌<◌}
use lib.ListN.{length, get_or}
use Rattle.summary.specs.Codes.{decode}
use Rattle.summary.proofs.Tests.{end_first, end_last}
use Rattle.rule_summary.proofs.end_at.Goals as goal
use Rattle.rule_summary.proofs.end_at.Goals.{in-Left, in-Right}

pub returns : goal.returns
returns c =
    λ u cs s e.
    let some : 0 < length u = omega (arith, c.requires.0, e) in
    elim c.match-side.branch [
      | in-Left w ↦
          rw w.in-Left.is
          (end_first u some (decode c.lettered.result) c.letter_at.result c.lettered.ensures
          (c.letter_at.ensures u cs s (omega (arith, w.k-is)) ∙ ap (λ k. get_or u k 0) w.k-is))
      | in-Right w ↦
          rw w.in-Right.is
          (end_last u some (decode c.lettered.result) c.letter_at.result c.lettered.ensures
          (c.letter_at.ensures u cs s (omega (arith, w.k-is, e)) ∙ ap (λ k. get_or u k 0) (w.k-is ∙ ap (λ k. k - 1) e)))
    ]
