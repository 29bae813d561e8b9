-- Ranked trees, in which each symbol is in the list and has as many trees below it as its arity. Definitions only.
use Rattle.std.specs.Prelude.{◌≡◌, List, ℕ, zero, suc, ◌<◌, length, get_or}
use Rattle.std.proofs.Math.Option.{some}
use Rattle.machine.specs.Machine.{Tree, Forest, node, ∅, ◌▸◌, Rule, Table, find}

-- The number of trees.
abbrev pub count : Forest → ℕ
count ∅ = zero
count (t ▸ ts) = suc (count ts)

-- Each symbol of the tree, or of the trees, is in the list of arities and has as many trees below it as its arity.
abbrev mutual
  pub Ranked : List ℕ → Tree → Type 0
  Ranked arities (node f ts) = (f < length arities) × (count ts ≡ get_or arities f 0) × Rankeds arities ts

  pub Rankeds : List ℕ → Forest → Type 0
  Rankeds arities ∅ = Unit {0}
  Rankeds arities (t ▸ ts) = Ranked arities t × Rankeds arities ts

-- Each rule is for a symbol of the list and has a child for each place of its symbol.
abbrev pub Fitting : List ℕ → Table → Type 0
Fitting arities M = (q f : ℕ) (r : Rule) → find M.rows q f ≡ some r → (f < length arities) × (length r.rest ≡ get_or arities f 0)
