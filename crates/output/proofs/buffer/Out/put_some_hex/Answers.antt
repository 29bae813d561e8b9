-- `put_some_hex` meets its contract: digits of as many bytes as have places, or of none where a write has failed.
use mathlib.Core.Path.{refl, sym, ap}
use native.Mathlib.Omega.{arith}
use Rattle.output.specs.Queue.{count, seen}
use Rattle.output.proofs.Hexes.{spelt_none, spelt_some}
use Rattle.output.proofs.buffer.Out.put_some_hex.Goals as goal

pub returns-then-places-lt2 : goal.returns-then-places-lt2
returns-then-places-lt2 c =
    spelt_none c.args.bytes.now (seen c.args.self.now) (seen c.make_room_for_two.new.self) _ _ c.make_room_for_two.ensures.kept
    c.make_room_for_two.ensures.same_buffer c.make_room_for_two.ensures.two refl refl (omega arith)

pub returns : goal.returns
returns c =
    spelt_some c.args.bytes.now c.spell-n.new.places (seen c.args.self.now) (seen c.make_room_for_two.new.self) c.make_room_for_two.new.self.bytes.now
    c.in-Some.start c.spell-n.result _ c.make_room_for_two.ensures.kept c.make_room_for_two.ensures.same_buffer c.make_room_for_two.ensures.two
    refl refl (sym (ap count c.in-Some.is)) (omega arith) (omega arith) c.spell-n.ensures
