-- `start_frame` meets its contract. Assumes nothing.
use lib.Seq.{slice}
use Rattle.text.specs.Fields as text
use Rattle.fields.proofs.Numbers as number
use Rattle.fields.proofs.Words as word
use Rattle.head_frames.proofs.StepFrames as law
use Rattle.head_frames.proofs.Starts as start
use Rattle.head_frames.proofs.start_frame.Goals as goal
use Rattle.head_frames.proofs.start_frame.Goals.{In_ok-states, In_ok-word, In_ok-start, In_ok-word-2}

-- What the number of states gives.
count_read : (c : In_ok-states) →
    number.IsNumber c.args.cursor.frames.now c.args.cursor.at c.args.cursor.end c.in_ok-states.states c.within.new.self.at
    (text.within 1 64 (slice c.args.cursor.at c.args.cursor.end c.args.cursor.frames.now))
count_read c = number.got_number _ _ _ _ _ _ c.in_ok-states.ensures.read

-- What the word in front gives.
before_read : (c : In_ok-word) →
    word.IsWord c.args.cursor.frames.now c.within.new.self.at c.args.cursor.end c.in_ok-word.field-0 c.word.new.self.at
    (text.text (slice c.within.new.self.at c.args.cursor.end c.args.cursor.frames.now))
before_read c =
    let w = rw (c.within.ensures.frames, c.within.ensures.end) at c.in_ok-word.ensures.read in
    word.got_word _ _ _ _ _ _ w

-- What the initial state gives.
state_read : (c : In_ok-start) →
    number.IsNumber c.args.cursor.frames.now c.word.new.self.at c.args.cursor.end c.in_ok-start.start c.below.new.self.at
    (text.below c.in_ok-states.states (slice c.word.new.self.at c.args.cursor.end c.args.cursor.frames.now))
state_read c =
    let w =
    rw (c.word.ensures.frames, c.within.ensures.frames, c.word.ensures.end, c.within.ensures.end) at c.in_ok-start.ensures.read in
    number.got_number _ _ _ _ _ _ w

-- What the word behind gives.
after_read : (c : In_ok-word-2) →
    word.IsWord c.args.cursor.frames.now c.below.new.self.at c.args.cursor.end c.in_ok-word-2.field-0 c.word-2.new.self.at
    (text.text (slice c.below.new.self.at c.args.cursor.end c.args.cursor.frames.now))
after_read c =
    let w = rw (c.below.ensures.frames, c.word.ensures.frames, c.within.ensures.frames, c.below.ensures.end, c.word.ensures.end, c.within.ensures.end)
    at c.in_ok-word-2.ensures.read in
    word.got_word _ _ _ _ _ _ w

pub returns-in_err-states : goal.returns-in_err-states
returns-in_err-states c =
    λ R ks d kind.
    law.number_stops c.args.cursor.frames.now R _ _ _ c.from_residual.ensures.1 _ _ c.within.new.self.at _ c.in_err-states.ensures.read
    (start.refuse_states c.args.cursor.frames.now ks c.args.cursor.at c.args.cursor.end _)

pub returns-in_err-word : goal.returns-in_err-word
returns-in_err-word c =
    let here = goal.at.returns-in_err-word c in
    let w = rw (c.within.ensures.frames, c.within.ensures.end) at c.in_err-word.ensures.read in
    λ R ks d kind.
    law.word_stops c.args.cursor.frames.now R _ _ _ c.from_residual-in_err-word.ensures.1 _ _ c.word.new.self.at _ w
    (start.refuse_before ks (count_read here.In_ok-states) _)

pub returns-in_err-start : goal.returns-in_err-start
returns-in_err-start c =
    let here = goal.at.returns-in_err-start c in
    let w =
    rw (c.word.ensures.frames, c.within.ensures.frames, c.word.ensures.end, c.within.ensures.end) at c.in_err-start.ensures.read in
    λ R ks d kind.
    law.number_stops c.args.cursor.frames.now R _ _ _ c.from_residual-in_err-start.ensures.1 _ _ c.below.new.self.at _ w
    (start.refuse_state ks (count_read here.In_ok-states) (before_read here.In_ok-word) _)

pub returns-in_err-word-2 : goal.returns-in_err-word-2
returns-in_err-word-2 c =
    let here = goal.at.returns-in_err-word-2 c in
    let w = rw (c.below.ensures.frames, c.word.ensures.frames, c.within.ensures.frames, c.below.ensures.end, c.word.ensures.end, c.within.ensures.end)
    at c.in_err-word-2.ensures.read in
    λ R ks d kind.
    law.word_stops c.args.cursor.frames.now R _ _ _ c.from_residual-in_err-word-2.ensures.1 _ _ c.word-2.new.self.at _ w
    (start.refuse_after ks (count_read here.In_ok-states) (before_read here.In_ok-word) (state_read here.In_ok-start) _)

pub returns-in_err-finish : goal.returns-in_err-finish
returns-in_err-finish c =
    let here = goal.at.returns-in_err-finish c in
    let over = rw (c.word-2.ensures.end, c.below.ensures.end, c.word.ensures.end, c.within.ensures.end) at c.in_err-finish.ensures in
    λ R ks d kind.
    start.start_over ks (count_read here.In_ok-states) (before_read here.In_ok-word) (state_read here.In_ok-start) (after_read here.In_ok-word-2)
    R _ _ c.from_residual-in_err-finish.ensures.1 over c.args.cursor.inside

pub returns : goal.returns
returns c =
    let here = goal.at.returns c in
    let all = rw (c.word-2.ensures.end, c.below.ensures.end, c.word.ensures.end, c.within.ensures.end) at c.in_ok-finish.ensures in
    rw (c.word-2.ensures.end, c.below.ensures.end, c.word.ensures.end, c.within.ensures.end)
    (λ R ks d kind.
    start.start_next ks (count_read here.In_ok-states) (before_read here.In_ok-word) (state_read here.In_ok-start) (after_read here.In_ok-word-2) d all
    c.requires c.args.cursor.inside kind R)
