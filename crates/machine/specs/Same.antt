-- Sameness of states and of tables on all finite trees. Both speak of infinitely many trees. Definitions only.
use Rattle.std.specs.Prelude.{◌≡◌, ℕ}
use Rattle.machine.specs.Machine.{Tree, Table, word, output}

-- State q of M and state r of N have the same words on all finite trees, having none included.
abbrev pub Same : Table → Table → ℕ → ℕ → Type 0
Same M N q r = (t : Tree) → word M q t ≡ word N r t

-- The two tables give every finite tree, of any size or depth, the same word, or both none.
abbrev pub Agree : Table → Table → Type 0
Agree M N = (t : Tree) → output M t ≡ output N t
