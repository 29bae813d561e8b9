-- `with_places` meets its contract: a line that needs no places, or one that was looked through.
use Rattle.long_line.proofs.Lines as law
use Rattle.long_line.proofs.with_places.Goals as goal
use Rattle.long_line.proofs.with_places.Goals.{in-Whole, in-Digit}

pub returns-then-bytes-le-TREE : goal.returns-then-bytes-le-TREE
returns-then-bytes-le-TREE c =
    λ cs n h. law.few_places h c.if-bytes-le-TREE.true

pub returns : goal.returns
returns c =
    let kept : law.EndKept c.args.line.line.end c.match-end.any =
    elim c.match-end.branch [ in-Whole w ↦ rw w.in-Whole.is w.any-is | in-Digit w ↦ rw w.in-Digit.is w.any-is ] in
    λ cs n h. law.new_places h _ _ _ n kept c.if-bytes-le-TREE.false c.front.ensures c.past_with.ensures
