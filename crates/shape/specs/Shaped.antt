-- What the shape check answers. Definitions only.
use Rattle.std.specs.Prelude.{ℕ, length}
use Rattle.words.specs.Reply.{Reply, mapped}
use Rattle.machine.specs.Machine.{Tree}
use Rattle.trees.specs.Preorder.{preorder}
use Rattle.trees.specs.Shape.{Read}

-- Where a tree that was read ends, or trees; a refusal stays.
abbrev pub ends : {A : Type 0} → Reply (Read A) → Reply ℕ
ends {A} o = mapped (λ (r : Read A). r.place) o

-- How many symbols a whole tree has; a refusal stays.
abbrev pub size : Reply Tree → Reply ℕ
size o = mapped (λ (t : Tree). length (preorder t)) o
