-- The record of a tree, or 24. Definitions only.
use Rattle.std.specs.Prelude.{not, ℕ, suc, eqb, length}
use Rattle.words.specs.Reply.{Reply, given, refused, refuse_if}
use Rattle.machine.specs.Machine.{Tree, Forest, node, ∅, ◌▸◌}
use Rattle.trees.specs.Preorder.{preorder}
use Rattle.records.specs.Records.{Element, Elements, element, empty, ◌&◌}

-- The elements of which a tree is the image: none for a leaf, else the label with what is below the first child, and then what is
-- below the second.
unfoldable mutual
  pub elements_of : Tree → Elements
  elements_of (node f ts) = elements_in ts f

  pub elements_in : Forest → ℕ → Elements
  elements_in ∅ f = empty
  elements_in (t ▸ ts) f = element f (elements_of t) & elements_next ts

  pub elements_next : Forest → Elements
  elements_next ∅ = empty
  elements_next (t ▸ ts) = elements_of t

-- The root's symbol f with its children: 24 at 0 if there is none, and at the second one where that is not the last symbol.
abbrev pub back_in : ℕ → ℕ → Forest → Reply Element
back_in a f ∅ = refused 24 0
back_in a f (t ▸ ∅) = refused 24 0
back_in a f (t ▸ node g us ▸ ts) = refuse_if (not (eqb g a)) 24 (suc (length (preorder t))) (given (element f (elements_of t)))

-- The record of which a tree is the image, or 24.
abbrev pub back : ℕ → Tree → Reply Element
back a (node f ts) = back_in a f ts
