-- The two ways between streams and tree bytes, with the refusals of both in their order. Definitions only.
use Rattle.std.specs.Prelude.{List, ℕ}
use Rattle.words.specs.Reply.{Reply, given, ◌then◌}
use Rattle.trees.specs.Preorder.{preorder}
use Rattle.trees.specs.Shape.{read_tree}
use Rattle.records.specs.Records.{bytes_of, image}
use Rattle.records.specs.Stream.{read_record}
use Rattle.records.specs.Symbols.{last_symbol}
use Rattle.records.specs.Back.{back}

-- The image of a stream's record in tree bytes, of any size: 20, then 21 to 23.
unfoldable pub spelled : List ℕ → List ℕ → Reply (List ℕ)
spelled ar s = last_symbol ar then λ a. read_record a s then λ r. given (preorder (image a r))

-- The tree bytes of a stream: 20, then 21 to 23, then the tree's own 6 and 10.
unfoldable pub tree_of : List ℕ → List ℕ → Reply (List ℕ)
tree_of ar s = spelled ar s then λ bs. read_tree ar bs then λ t. given bs

-- The stream of tree bytes: 20, then 6, 7, 8, 10, 11, then 24.
unfoldable pub record_of : List ℕ → List ℕ → Reply (List ℕ)
record_of ar bs = last_symbol ar then λ a. read_tree ar bs then back a then λ r. given (bytes_of r)
