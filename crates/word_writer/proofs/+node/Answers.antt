-- `node` writes the word of a planned tree. Assumes nothing.
use mathlib.Core.Path.{refl, ◌∙◌}
use Prim.Native.Nat.{◌-◌}
use native.Mathlib.Omega.{arith}
use lib.ListN.{length}
use Rattle.word_writer.specs.WordWritten.{GoesOn}
use Rattle.word_writer.proofs.Writing.{Called, stop_nothing, writing_first, writing_last, writing_more, called_long, called_letters}
use Rattle.word_writer.proofs.+node.Goals as goal
use Rattle.word_writer.proofs.+node.Goals.{then-left-eq0-via-then-left-eq0, then-left-eq0-via-else-left-eq0+then-not-goes_on}

pub loop-left-init : goal.loop-left-init
loop-left-init t c =
    let a = c.args in
    let first = writing_first a.frames.now a.plan.now a.levels a.at (length a.room.now) a.room.now c.narrow-entry.result c.narrow-entry.ensures in
    (first, omega arith, refl, omega arith, omega arith)

pub returns-then-left-eq0-clause-word_written : goal.returns-then-left-eq0-clause-word_written
returns-then-left-eq0-clause-word_written t c =
    let put = c.put_word-end in
    let loop = c.loop-left.invariant in
    elim c.then-left-eq0.branch [
      | then-left-eq0-via-then-left-eq0 w ↦ writing_last loop.0 loop.2 put.new.room put.result put.ensures w.if-left-eq0.true
      | then-left-eq0-via-else-left-eq0+then-not-goes_on w ↦
          λ M q u v d. absurd (stop_nothing loop.0 loop.2 w.if-left-eq0.false (w.goes_on.ensures.if_false w.if-not-goes_on.true) M q u v d)
    ]

pub loop-left-preserved : goal.loop-left-preserved
loop-left-preserved t c =
    let a = c.args in
    let l = c.loop-left in
    let put = c.put_word-end in
    let b : Called a.frames.now a.plan.now a.levels l.room l.end l.next l.left l.p put.new.room put.result c.node-below.new.room c.node-below.result =
    record {
      put = put.ensures;
      wrote = c.node-below.ensures.word_written;
      tidy = c.node-below.ensures.tidy;
      kids = c.if-left-eq0.false;
    } in
    let o = c.next_spot_full-p in
    let g : GoesOn (a.levels - 1) l.next l.p = c.goes_on.ensures.if_true c.if-not-goes_on.false in (
      writing_more b l.invariant.0 l.invariant.2 o.result o.ensures,
      omega (arith, called_long b, called_letters b),
      called_long b ∙ l.invariant.2,
      b.tidy.place,
      omega (arith, l.invariant.4, c.node-below.ensures.ends_behind.behind (omega (arith, g.place))),
    )
