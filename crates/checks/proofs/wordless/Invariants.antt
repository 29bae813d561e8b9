-- `wordless` meets its contract. Invariant: no state before q is such a state.
use mathlib.Core.Path.{◌≡◌}
use mathlib.Core.Bool.{false}
use Prim.Native.Nat.{ℕ, ◌<◌}
use Rattle.end_laws.specs.Ends.{lives}
use Rattle.summary.specs.Codes.{K}
use Rattle.checks.proofs.wordless.Given as goal

abbrev pub invariant-loop-q : goal.invariant-loop-q
invariant-loop-q l =
    (p : ℕ) → p < l.q → lives (K l.left p) ≡ false → ⊥
