-- Two lists side by side. Definitions only.
use Rattle.std.specs.Prelude.{List, [], ◌∷◌}

-- The lists have one length, and R relates their members in turn.
abbrev pub Pairs : {A B : Type 0} → (A → B → Type 0) → List A → List B → Type 0
Pairs R [] [] = Unit {0}
Pairs R [] (y ∷ ys) = ⊥
Pairs R (x ∷ xs) [] = ⊥
Pairs R (x ∷ xs) (y ∷ ys) = R x y × Pairs R xs ys
