-- `kids_alike` meets its contract. The loop's invariant: the later children with less than n others behind are alike. Assumes nothing.
use mathlib.Core.Path.{◌≡◌}
use Prim.Native.Nat.{ℕ, suc, ◌+◌, ◌<◌}
use lib.ListN.{length}
use Rattle.machine.specs.Machine.{Rule}
use Rattle.layout.specs.Leaves.{Encodes, state_no}
use Rattle.layout.specs.Kids.{Alike}
use Rattle.rule_leaves.proofs.kids.kids_alike.Given as goal

abbrev pub invariant-loop-n : goal.invariant-loop-n
invariant-loop-n l =
    (i k : ℕ) (a b : Rule) → Encodes l.x i a → Encodes l.y k b → length a.rest ≡ length b.rest
    → (m : ℕ) → m < l.n → (j : ℕ) → suc (suc j) + m ≡ length a.rest → Alike l.map l.map2 (state_no a.rest (suc j)) (state_no b.rest (suc j))
