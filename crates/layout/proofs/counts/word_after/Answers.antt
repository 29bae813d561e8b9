-- `word_after` meets its contract: the word is read where the head says.
use mathlib.Core.Path.{ap, ◌∙◌}
use Prim.Native.Nat.{ℕ}
use Rattle.layout.specs.Leaves.{word_at}
use Rattle.layout.proofs.Heads.{after_word}
use Rattle.layout.proofs.counts.word_after.Goals as goal

pub returns-clause-meant : goal.returns-clause-meant
returns-clause-meant c =
    λ M o. c.stretch.ensures.0 ∙ ap (λ (k : ℕ). word_at c.args.table.now.frames.now k) (c.place.ensures ∙ o.head.after) ∙ after_word o
