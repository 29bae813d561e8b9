-- `tree` meets its contract: the refusal of the reading, or the tree bytes of the record that was read.
use mathlib.Core.Path.{subst}
use borrow.Author.Rules.{rules}
use Rattle.promises.specs.Records.{tree_of_record}
use Rattle.read_record.specs.RecordRead.{RecordRead}
use Rattle.spelling.proofs.Answered.{spells_refused}
use Rattle.record_tree_call.proofs.Imaged as law
use Rattle.record_tree_call.proofs.tree.Goals as goal

pub returns-in_err-last : goal.returns-in_err-last
unfolding tree_of_record
returns-in_err-last c =
    λ M o. spells_refused c.args.room.now
    (law.tree_refused M.arities c.args.stream.now (subst (RecordRead M.arities c.args.stream.now) c.in_err-last.was (c.read.ensures.meant M o)))
    (search rules)

pub returns : goal.returns
unfolding tree_of_record
returns c =
    λ M o. c.spell.ensures M.arities (subst (RecordRead M.arities c.args.stream.now) c.in_ok-last.was (c.read.ensures.meant M o))
