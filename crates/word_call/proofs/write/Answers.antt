-- `write` meets its contract: 12 with the length of the three words, or the room filled with them. Assumes nothing.
use mathlib.Core.Path.{refl}
use Rattle.word_call.proofs.Output.{output_short, output_fits}
use Rattle.word_call.proofs.write.Goals as goal

pub returns-then-room-length : goal.returns-then-room-length
returns-then-room-length c =
    λ S M o k.
    output_short
    (record { opened = o; counted = k; first = c.word_before-before.ensures.meant M o; last = c.word_after-after.ensures.meant M o })
    c.args.room.now
    c.if-room-length.true
    refl

pub returns : goal.returns
returns c =
    λ S M o k.
    output_fits
    (record { opened = o; counted = k; first = c.word_before-before.ensures.meant M o; last = c.word_after-after.ensures.meant M o })
    c.terms_in-terms.result
    c.if-room-length.false
    (record {
      room₁ = c.put-from.new.room;
      room₂ = c.put_tree.new.room;
      from = c.put-from.result;
      first = c.put-from.ensures.1;
      from_is = c.put-from.ensures.0;
      tree = c.put_tree.ensures;
      last = c.put.ensures.1;
    })
    c.terms_in-terms.ensures
    refl
