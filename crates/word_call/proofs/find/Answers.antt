-- `find` meets its contract: what writing answers where the tree was counted, else why there is no word. Assumes nothing.
use Rattle.word_call.proofs.Output.{measured_other}
use Rattle.word_call.proofs.find.Goals as goal

pub returns-in_default : goal.returns-in_default
returns-in_default c =
    λ M o. measured_other c.args.tree.now _ c.measure-counted.result c.args.room.now (c.measure-counted.ensures.by_index _ M o)
    c.in_default.is o c.why.ensures
