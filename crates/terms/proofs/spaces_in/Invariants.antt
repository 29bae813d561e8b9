-- `spaces_in` meets its contract. The loop's invariant: n letters 20 stand before the letter. Assumes nothing.
use mathlib.Core.Path.{◌≡◌}
use Prim.Native.Nat.{◌≤◌}
use lib.ListN.{take}
use Rattle.words.specs.Word.{spaces}
use Rattle.terms.proofs.spaces_in.Given as goal

abbrev pub invariant-loop-letter : goal.invariant-loop-letter
invariant-loop-letter l =
    (l.n ≡ spaces (take l.letter-index l.piece)) × (l.n ≤ l.letter-index)
