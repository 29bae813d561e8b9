-- The first position in preorder with no rule for its state and symbol: number 9. Definitions only.
use Rattle.std.specs.Prelude.{List, [], ◌∷◌, ℕ, suc, ◌+◌, length}
use Rattle.std.proofs.Math.Option.{Option, none, some}
use Rattle.machine.specs.Machine.{Tree, Forest, node, ∅, ◌▸◌, Child, Rule, Table, find}
use Rattle.trees.specs.Preorder.{preorder}

-- The first of two places that is there.
abbrev pub or_else : Option ℕ → Option ℕ → Option ℕ
or_else (some p) o = some p
or_else none o = o

-- Place p if the rule is missing, else what lacks below it.
abbrev pub rule_or : Option Rule → ℕ → (List Child → Option ℕ) → Option ℕ
rule_or none p below = some p
rule_or (some r) p below = below r.rest

-- The first position in preorder without a rule, for state q on a tree that stands at place p; none if every rule is there.
unfoldable mutual
  pub lacks : Table → ℕ → Tree → ℕ → Option ℕ
  lacks M q (node f ts) p = rule_or (find M.rows q f) p (λ cs. lackss M ts cs (suc p))

  pub lackss : Table → Forest → List Child → ℕ → Option ℕ
  lackss M ∅ cs p = none
  lackss M (t ▸ ts) [] p = none
  lackss M (t ▸ ts) (c ∷ cs) p = or_else (lacks M c.state t p) (lackss M ts cs (p + length (preorder t)))
