-- States compared by their rules, and by rounds of it. Definitions only.
use Rattle.std.specs.Prelude.{◌≡◌, List, [], ◌∷◌, ℕ, zero, suc}
use Rattle.std.proofs.Math.Option.{Option, none, some}
use Rattle.machine.specs.Machine.{Child, Rule, Table, find}

-- Two rests of rules have as many children, equal words after them, and child states that R relates.
abbrev pub Rests : (ℕ → ℕ → Type 0) → List Child → List Child → Type 0
Rests R [] [] = Unit {0}
Rests R [] (d ∷ ds) = ⊥
Rests R (c ∷ cs) [] = ⊥
Rests R (c ∷ cs) (d ∷ ds) = R c.state d.state × (c.after ≡ d.after) × Rests R cs ds

-- The rule is there in both or in neither, and where it is there the words are equal and R relates the child states.
abbrev pub Rules : (ℕ → ℕ → Type 0) → Option Rule → Option Rule → Type 0
Rules R none none = Unit {0}
Rules R none (some s) = ⊥
Rules R (some r) none = ⊥
Rules R (some r) (some s) = (r.first ≡ s.first) × Rests R r.rest s.rest

-- State q of M and state r of N have matching rules for every symbol.
abbrev pub Match : Table → Table → (ℕ → ℕ → Type 0) → ℕ → ℕ → Type 0
Match M N R q r = (f : ℕ) → Rules R (find M.rows q f) (find N.rows r f)

-- A relation that rules keep: related states have matching rules with related child states.
abbrev pub RulesKeep : Table → Table → (ℕ → ℕ → Type 0) → Type 0
RulesKeep M N R = (q r : ℕ) → R q r → Match M N R q r

-- Twins by k rounds of comparing rules: any two states are twins by no round.
abbrev pub Twin : Table → Table → ℕ → ℕ → ℕ → Type 0
Twin M N zero q r = Unit {0}
Twin M N (suc k) q r = Match M N (λ p s. Twin M N k p s) q r
