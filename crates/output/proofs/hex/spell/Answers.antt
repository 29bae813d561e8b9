-- `spell` meets its contract: at each turn the digits of the first i bytes stand at the front.
use mathlib.Core.Path.{refl}
use native.Mathlib.Omega.{arith}
use lib.ListN.{length-set}
use Rattle.text.specs.Lines.{hex_of}
use Rattle.output.proofs.Hexes.{hex_stored}
use Rattle.output.proofs.hex.spell.Goals as goal

pub loop-i-init : goal.loop-i-init
unfolding hex_of
loop-i-init c =
    (refl, refl)

pub loop-i-preserved : goal.loop-i-preserved
loop-i-preserved c =
    let stored = hex_stored c.args.bytes.now _ c.args.places.now c.loop-i.i _ _ c.loop-i.invariant.1 c.digit.ensures c.digit-in-loop-i.ensures
    (omega arith) (omega arith) in
    (simp length-set c.loop-i.invariant.0, stored)
