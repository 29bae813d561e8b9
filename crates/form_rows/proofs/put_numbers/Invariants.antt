-- `put_numbers` meets its contract: the children passed have their numbers over their states.
use mathlib.Core.Path.{◌≡◌}
use mathlib.Core.List.{List}
use Prim.Native.Nat.{ℕ, ◌-◌}
use lib.ListN.{length}
use lib.Seq.{sets}
use Rattle.machine.specs.Machine.{Rule}
use Rattle.text.specs.Lines.{hex_of}
use Rattle.layout.specs.Layout.{rule_text}
use Rattle.form_rows.proofs.Renaming.{Renaming}
use Rattle.form_rows.proofs.put_numbers.Given as goal

abbrev pub invariant-loop-pos : goal.invariant-loop-pos
invariant-loop-pos l =
    record {
      same_room : l.pen.room.ghost_name ≡ l.initial.pen.room.ghost_name;
      stays : l.pen.at ≡ l.initial.pen.at;
      renaming : (R : List ℕ) (r : Rule) → l.text ≡ rule_text r → l.initial.pen.room.now ≡ sets R l.at (hex_of l.text) → Renaming l.text l.names r R l.at
          l.pen.room.now l.pos;
    }

abbrev pub decreases-loop-pos : goal.decreases-loop-pos
decreases-loop-pos l =
    length l.text - l.pos
