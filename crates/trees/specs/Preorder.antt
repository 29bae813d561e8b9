-- A tree is its symbols in preorder, a byte each. Definitions only.
use Rattle.std.specs.Prelude.{List, [], ◌∷◌, ◌++◌, ℕ, zero, suc}
use Rattle.machine.specs.Machine.{Tree, Forest, node, ∅, ◌▸◌}

-- The symbols of a tree in preorder, and of several trees one after the other.
unfoldable mutual
  pub preorder : Tree → List ℕ
  preorder (node f ts) = f ∷ preorders ts

  pub preorders : Forest → List ℕ
  preorders ∅ = []
  preorders (t ▸ ts) = preorder t ++ preorders ts

-- The depth is at most n: a lone leaf has depth 1.
unfoldable mutual
  pub Levels : Tree → ℕ → Type 0
  Levels (node f ts) zero = ⊥
  Levels (node f ts) (suc n) = Levelss ts n

  pub Levelss : Forest → ℕ → Type 0
  Levelss ∅ n = Unit {0}
  Levelss (t ▸ ts) n = Levels t n × Levelss ts n
