-- Children of two rules compared by their states. Definitions only.
use Rattle.std.specs.Prelude.{◌≡◌, List, [], ◌∷◌, ℕ, get_or}
use Rattle.machine.specs.Machine.{Child}

-- The lists C and D give state p of one table and state s of the other one byte.
abbrev pub Alike : List ℕ → List ℕ → ℕ → ℕ → Type 0
Alike C D p s = get_or C p 0 ≡ get_or D s 0

-- There are as many children, and R relates their states, each in turn.
abbrev pub Kids : (ℕ → ℕ → Type 0) → List Child → List Child → Type 0
Kids R [] [] = Unit {0}
Kids R [] (d ∷ ds) = ⊥
Kids R (c ∷ cs) [] = ⊥
Kids R (c ∷ cs) (d ∷ ds) = R c.state d.state × Kids R cs ds
