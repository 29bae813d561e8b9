-- `spell` meets its contract: at each turn the digits of the first i bytes stand at the front.
use mathlib.Core.Path.{◌≡◌}
use mathlib.Core.List.{◌++◌}
use Prim.Native.Nat.{◌*◌}
use lib.ListN.{length, take, drop}
use Rattle.text.specs.Lines.{hex_of}
use Rattle.output.proofs.hex.spell.Given as goal

abbrev pub invariant-loop-i : goal.invariant-loop-i
invariant-loop-i l =
    (length l.places ≡ length l.initial.places) × (l.places ≡ hex_of (take l.i l.bytes) ++ drop (l.i * 2) l.initial.places)
