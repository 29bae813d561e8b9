-- `terms_of` meets its contract. The loop's invariant: n is one more than the letters 20 before `at`. Assumes nothing.
use mathlib.Core.Path.{◌≡◌}
use Prim.Native.Nat.{suc, ◌+◌, ◌-◌, ◌≤◌}
use lib.ListN.{length, take}
use Rattle.words.specs.Word.{spaces}
use Rattle.terms.proofs.terms_of.Given as goal

abbrev pub invariant-loop-at : goal.invariant-loop-at
invariant-loop-at l =
    (l.at ≤ length l.word) × (l.n ≡ suc (spaces (take l.at l.word))) × (l.n ≤ l.at + 1)

abbrev pub decreases-loop-at : goal.decreases-loop-at
decreases-loop-at l =
    length l.word - l.at
