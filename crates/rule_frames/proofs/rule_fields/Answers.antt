-- `rule_fields` meets its contract. Assumes nothing.
use lib.Seq.{slice}
use Rattle.text.specs.Fields as text
use Rattle.fields.proofs.Words as word
use Rattle.fields.proofs.Siblings as kids
use Rattle.rule_frames.proofs.RuleFields as law
use Rattle.rule_frames.proofs.rule_fields.Goals as goal
use Rattle.rule_frames.proofs.rule_fields.Goals.{In_ok-first}

-- What the first word gives.
first_read : (c : In_ok-first) →
    word.IsWord c.args.cursor.now.frames.now c.args.cursor.now.at c.args.cursor.now.end c.in_ok-first.first c.word.new.self.at
    (text.text (slice c.args.cursor.now.at c.args.cursor.now.end c.args.cursor.now.frames.now))
first_read c = word.got_word _ _ _ _ _ _ c.in_ok-first.ensures.read

pub returns-in_err-first-clause-read : goal.returns-in_err-first-clause-read
returns-in_err-first-clause-read c =
    law.first_stops c.args.cursor.now.frames.now c.args.i c.args.cursor.now.at c.args.cursor.now.end c.word.new.self.at c.args.states c.args.count _ _
    c.from_residual.ensures.1 c.word.new.self.at c.in_err-first.ensures.read

pub returns-in_err-rest-clause-read : goal.returns-in_err-rest-clause-read
returns-in_err-rest-clause-read c =
    let w = rw (c.word.ensures.frames, c.word.ensures.end) at c.in_err-rest.ensures.read in
    law.rest_stops c.args.cursor.now.frames.now c.args.i c.args.cursor.now.at c.args.cursor.now.end c.children.new.self.at c.args.states c.args.count _ _
    c.from_residual-in_err-rest.ensures.1 _ _ c.children.new.self.at
    (first_read (goal.at.returns-in_err-rest-clause-read c).In_ok-first) w

pub returns-clause-read : goal.returns-clause-read
returns-clause-read c =
    let w = rw (c.word.ensures.frames, c.word.ensures.end) at c.in_ok-rest.ensures.read in
    law.rule_got _ c.args.i _ _ c.args.states c.args.count _ _ _ _ _ c.pack.result
    (first_read (goal.at.returns-clause-read c).In_ok-first) (kids.got_kids _ _ _ _ _ _ w) c.pack.ensures
