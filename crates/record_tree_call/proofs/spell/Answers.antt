-- `spell` meets its contract: 10 for too many levels, 12 for a room that is too short, or the tree bytes put into it.
use Prim.Native.Nat.{◌≤◌}
use native.Mathlib.Omega.{arith}
use borrow.Author.Rules.{rules}
use Rattle.spelling.proofs.Answered.{spells_refused, spells_short, spells_bytes}
use Rattle.record_tree_call.proofs.Imaged as law
use Rattle.record_tree_call.proofs.spell.Goals as goal

pub returns-in_err-levels : goal.returns-in_err-levels
returns-in_err-levels c =
    let m : c.args.last ≤ 255 = omega arith in
    λ ar u. spells_refused c.args.room.now (law.tree_deeper m u _ c.levels.result c.levels.ensures.told c.in_err-levels.was) (search rules)

pub returns-then-room-bytes : goal.returns-then-room-bytes
returns-then-room-bytes c =
    let m : c.args.last ≤ 255 = omega arith in
    λ ar u. spells_short c.args.room.now
    (law.tree_fits m u c.levels.result c.levels.ensures.told c.in_ok-levels.was)
    c.if-room-bytes.true (law.image_bytes c.args.last c.args.stream.now)

pub returns : goal.returns
returns c =
    let m : c.args.last ≤ 255 = omega arith in
    λ ar u. spells_bytes c.args.room.now
    (law.tree_fits m u c.levels.result c.levels.ensures.told c.in_ok-levels.was)
    c.if-room-bytes.false (law.image_bytes c.args.last c.args.stream.now)
    (law.image_room c.args.last c.args.stream.now c.args.room.now c.put_image.ensures)
