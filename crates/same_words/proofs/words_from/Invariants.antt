-- `words_from` meets its contract: what is left to compare decides what all words do.
use mathlib.Core.Path.{◌≡◌}
use mathlib.Core.List.{List}
use Prim.Native.Nat.{◌-◌, ◌<◌}
use lib.ListN.{length}
use Rattle.words.specs.Word.{Word}
use Rattle.machine.specs.Machine.{Child}
use Rattle.machine.specs.Twins.{Rests}
use Rattle.layout.specs.Layout.{frames_size}
use Rattle.layout.specs.Leaves.{Spot}
use Rattle.same_words.specs.Words.{Any}
use Rattle.same_words.proofs.Turns.{WordsLeft}
use Rattle.same_words.proofs.words_from.Given as goal

abbrev pub invariant-loop-i : goal.invariant-loop-i
invariant-loop-i l =
    (l.a < frames_size) × (l.b < frames_size) × ((u v : Word) (cs ds : List Child) → length l.frames ≡ frames_size → length l.frames2 ≡ frames_size
    → Spot l.frames u cs l.p → Spot l.frames2 v ds l.s → l.kids ≡ length cs → l.kids ≡ length ds → WordsLeft l.frames l.frames2 l.a l.b (l.kids - l.i)
    ((u ≡ v) × Rests Any cs ds))
