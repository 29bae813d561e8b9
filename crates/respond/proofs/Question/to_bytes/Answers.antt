-- `to_bytes` meets its contract: the line of what each call answers.
use Rattle.respond.proofs.Laws as law
use Rattle.respond.proofs.Question.to_bytes.Goals as goal

pub returns-in-Word-clause-answered : goal.returns-in-Word-clause-answered
returns-in-Word-clause-answered c =
    λ M o. law.asked_as M _ _ c.in-Word.is (c.put_found.ensures.answered _ _ (c.find-found.ensures M o))

pub returns-in-RecordWord-clause-answered : goal.returns-in-RecordWord-clause-answered
returns-in-RecordWord-clause-answered c =
    λ M o. law.asked_as M _ _ c.in-RecordWord.is (c.put_found-in-RecordWord.ensures.answered _ _ (c.find-found-in-RecordWord.ensures M o))

pub returns-in-RecordTree-clause-answered : goal.returns-in-RecordTree-clause-answered
returns-in-RecordTree-clause-answered c =
    λ M o. law.asked_as M _ _ c.in-RecordTree.is (c.put_spelled.ensures.answered _ _ (c.tree-spelled.ensures M o))

pub returns-in-TreeRecord-clause-answered : goal.returns-in-TreeRecord-clause-answered
returns-in-TreeRecord-clause-answered c =
    λ M o. law.asked_as M _ _ c.in-TreeRecord.is (c.put_spelled-in-TreeRecord.ensures.answered _ _ (c.record-spelled.ensures M o))
