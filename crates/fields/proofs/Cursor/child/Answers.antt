-- `child` meets its contract. Assumes nothing.
use Rattle.fields.proofs.Numbers as number
use Rattle.fields.proofs.Words as word
use Rattle.fields.proofs.Family as law
use Rattle.fields.proofs.Cursor.child.Goals as goal

pub returns-in_err-state-clause-read : goal.returns-in_err-state-clause-read
returns-in_err-state-clause-read c =
    law.child_fault _ _ _ c.below.new.self.at _ _ _ c.from_residual.ensures.1
    (law.state_fault c.args.states _ _ (number.fault_number _ _ _ _ _ _ c.in_err-state.ensures.read))

pub returns-in_err-letters-clause-read : goal.returns-in_err-letters-clause-read
returns-in_err-letters-clause-read c =
    let w = rw (c.below.ensures.frames, c.below.ensures.end) at c.in_err-letters.ensures.read in
    let i = number.got_number _ _ _ _ _ _ c.in_ok-state.ensures.read in
    law.child_fault _ _ _ c.word.new.self.at _ _ _ c.from_residual-in_err-letters.ensures.1
    (law.after_fault c.args.states _ _ _ _ i.read (word.fault_word _ _ _ _ _ _ w))

pub returns-clause-read : goal.returns-clause-read
returns-clause-read c =
    let w = rw (c.below.ensures.frames, c.below.ensures.end) at c.in_ok-letters.ensures.read in
    law.child_got _ _ _ c.args.states _ _ _ _ (number.got_number _ _ _ _ _ _ c.in_ok-state.ensures.read) (word.got_word _ _ _ _ _ _ w)
