-- Records, their streams and their images as trees. Here a is the number of the last symbol, which means "absent"; the labels are the
-- numbers below it. Definitions only.
use Rattle.std.specs.Prelude.{true, false, List, [], ◌∷◌, ◌++◌, ℕ, suc, ◌+◌, ◌<◌, eqb}
use Rattle.machine.specs.Machine.{Tree, node, ∅, ◌▸◌}

-- A record is an element: a label and the elements inside it.
infixr 67 ◌&◌
mutual
  pub data Element : Type 0 where
    element : ℕ → Elements → Element

  pub data Elements : Type 0 where
    empty : Elements
    ◌&◌ : Element → Elements → Elements

-- Its labels are below a.
abbrev mutual
  pub Labels : ℕ → Element → Type 0
  Labels a (element l es) = (l < a) × Labelss a es

  pub Labelss : ℕ → Elements → Type 0
  Labelss a empty = Unit {0}
  Labelss a (e & es) = Labels a e × Labelss a es

-- The byte that closes an element.
abbrev pub close : ℕ
close = 255

-- The stream: a label opens an element, the streams of what is inside follow, and ff closes it.
unfoldable mutual
  pub bytes_of : Element → List ℕ
  bytes_of (element l es) = l ∷ (bytes_ofs es ++ close ∷ [])

  pub bytes_ofs : Elements → List ℕ
  bytes_ofs empty = []
  bytes_ofs (e & es) = bytes_of e ++ bytes_ofs es

-- How many elements there are.
unfoldable mutual
  pub size : Element → ℕ
  size (element l es) = suc (sizes es)

  pub sizes : Elements → ℕ
  sizes empty = 0
  sizes (e & es) = size e + sizes es

-- An absent element is the last symbol.
abbrev pub absent : ℕ → Tree
absent a = node a ∅

-- An element with the image of what stands beside it: its label with two children, the first element inside and the next one beside.
unfoldable mutual
  pub beside : ℕ → Element → Tree → Tree
  beside a (element l es) t = node l (images a es ▸ t ▸ ∅)

  pub images : ℕ → Elements → Tree
  images a empty = absent a
  images a (e & es) = beside a e (images a es)

-- The image of a record: the root has no next sibling.
abbrev pub image : ℕ → Element → Tree
image a r = beside a r (absent a)

-- A byte, with `new` in place of `old`.
abbrev pub replaced : ℕ → ℕ → ℕ → ℕ
replaced old new b = elim (eqb b old) [ true ↦ new | false ↦ b ]

-- A byte of a stream as a symbol of the image, and back.
abbrev pub spell : ℕ → ℕ → ℕ
spell a b = replaced close a b

abbrev pub unspell : ℕ → ℕ → ℕ
unspell a f = replaced a close f
