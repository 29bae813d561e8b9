-- `eval` meets its contract: past the plan's end and without levels there is no tree, and else `node` writes its word. Assumes nothing.
use Rattle.word_writer.proofs.Writing.{levels_nothing, place_nothing}
use Rattle.word_writer.proofs.eval.Goals as goal

pub returns-then-at-ge-TREE-clause-word_written : goal.returns-then-at-ge-TREE-clause-word_written
returns-then-at-ge-TREE-clause-word_written c =
    λ M q u w d. absurd (place_nothing c.args.frames.now c.args.plan.now c.args.levels c.args.at _ c.if-at-ge-TREE.true M q u w d)

pub returns-then-levels-eq0-clause-word_written : goal.returns-then-levels-eq0-clause-word_written
returns-then-levels-eq0-clause-word_written c =
    λ M q u w d. absurd (levels_nothing c.args.frames.now c.args.plan.now c.args.levels c.args.at _ c.if-levels-eq0.true M q u w d)
