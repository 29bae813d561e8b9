-- `read_lines` meets its contract.
use mathlib.Core.Path.{sym, ap, ◌∙◌}
use native.Mathlib.Omega.{arith}
use Rattle.std.specs.Prelude.{Result}
use Rattle.table_lines.proofs.Stages as stage
use Rattle.table_lines.proofs.Ends as law
use Rattle.table_lines.proofs.Frames.{FrameTaken, frame_taken, line_spoiled, text_over}
use Rattle.table_lines.proofs.LineByLine.{up_to_begin, text_end, end_limited}
use Rattle.table_lines.proofs.LineByLine.{line_bad, line_staged, line_wrong, line_next}
use Rattle.table_lines.proofs.read_lines.Goals as goal
use Rattle.table_lines.proofs.read_lines.Goals.{In-Some}

-- A frame is read.
taken : (c : In-Some) →
    FrameTaken c.args.text.now c.loop-frame.reader.at c.loop-frame.st.used c.in-Some.frame c.next.new.self.at c.loop-frame.bytes c.next.new.frames
taken c = frame_taken _ _ _ _ _ _ _ c.loop-frame.invariant.0 _ _ c.in-Some.is c.in_ok-frame.ensures.read

pub loop-frame-init : goal.loop-frame-init
loop-frame-init c =
    let began = up_to_begin _ _ _ _ c.requires.0 c.requires.1 c.told-bytes
    (c.start-st.ensures.by_index c.args.bytes.now c.args.rules.now) c.start-st.ensures.used_value in
    (ap (λ t. t.now) c.new-reader.ensures.0, rw c.new-reader.ensures.1 began)

pub returns-in_err-frame : goal.returns-in_err-frame
returns-in_err-frame c =
    let spoiled = line_spoiled _ _ _ _ _ _ c.next.new.self.at c.loop-frame.invariant.0 _ c.in_err-frame.ensures.read in
    law.refusal_reads _ _ _ _ c.from_residual.result
    (line_bad c.loop-frame.invariant.1 spoiled.0 spoiled.2 ∙ ap Result.Err (sym spoiled.1)) c.from_residual.ensures.1

pub returns-in-Err : goal.returns-in-Err
returns-in-Err c =
    let t = taken (goal.at.returns-in-Err c).In-Some in
    let step = c.in-Err.ensures c.loop-frame.invariant.1.stage (line_staged c.loop-frame.invariant.1 t.whole c.requires.1) in
    let wrong = stage.wrong_step _ _ c.in-Err.fault _ step in
    law.refused_reads _ _ _ _ _ c.refuse.result (line_wrong c.loop-frame.invariant.1 t.whole c.requires.1 _ (rw (← c.number.ensures) at wrong))
    (rw t.place at c.refuse.ensures)

pub loop-frame-preserved : goal.loop-frame-preserved
loop-frame-preserved c =
    let t = taken (goal.at.loop-frame-preserved c).In-Some in
    let step = c.in-Ok.ensures c.loop-frame.invariant.1.stage (line_staged c.loop-frame.invariant.1 t.whole c.requires.1) in (
      ap (λ t. t.now) c.next.ensures.text ∙ c.loop-frame.invariant.0,
      line_next c.loop-frame.invariant.1 t.whole c.requires.1 _ _ (stage.ready_step _ _ c.in-Ok.next _ step),
    )

pub returns : goal.returns
returns c =
    let over = text_over _ _ _ _ _ _ c.next.new.self.at c.loop-frame.invariant.0 _ c.in_default.is c.in_ok-frame.ensures.read in
    let so_far = c.loop-frame.invariant.1 in
    rw over.1 (law.reads_as _ _ _ _ c.finish.result (rw over.0 at (text_end so_far (omega (arith, over.0)))) (c.finish.ensures _ _
    so_far.stage so_far.staged so_far.bytes (rw over.0 at (end_limited so_far (omega (arith, over.0))))))
