-- When the word call gives a word, and for what it refuses, said of the table, the tree and the published word. Definitions only.
use Rattle.std.specs.Prelude.{◌≡◌, List, ℕ, ◌<◌, ◌≤◌, length}
use Rattle.std.proofs.Math.Option.{some}
use Rattle.words.specs.Word.{Word}
use Rattle.words.specs.Reply.{given, refused}
use Rattle.machine.specs.Machine.{Tree, Table, output}
use Rattle.machine.specs.Ranks.{Ranked}
use Rattle.text.specs.Reading.{read_table}
use Rattle.trees.specs.Preorder.{preorder, Levels}
use Rattle.trees.specs.Shape.{tree_most, depth_most}
use Rattle.trees.specs.Standing.{FirstLacking}
use Rattle.trees.specs.Causes.{Cause}

-- The text is read as table M. The bytes are the preorder of tree t, 1 to 32,768 of them; each symbol is in M's list and has as many trees below it as its
-- arity; and the depth is at most 64.
pub record Asked (text tree : List ℕ) (M : Table) (t : Tree) : Type 0 where
  pub read : read_table text ≡ given M
  pub bytes : tree ≡ preorder t
  pub ranked : Ranked M.arities t
  pub some : 1 ≤ length tree
  pub most : length tree ≤ tree_most
  pub levels : Levels t depth_most

-- The published word of that tree is w, and it has room.
pub record WordGiven (text tree : List ℕ) (room : ℕ) (w : Word) : Type 0 where
  pub table : Table
  pub of : Tree
  pub asked : Asked text tree table of
  pub word : output table of ≡ some w
  pub fits : length w ≤ room

-- The published word of that tree has n letters, more than the room.
pub record RoomLacking (text tree : List ℕ) (room n : ℕ) : Type 0 where
  pub table : Table
  pub of : Tree
  pub asked : Asked text tree table of
  pub letters : Word
  pub word : output table of ≡ some letters
  pub needed : n ≡ length letters
  pub short : room < n

-- That tree's first position without a rule, by the way from the initial state, is p.
pub record RuleLacking (text tree : List ℕ) (p : ℕ) : Type 0 where
  pub table : Table
  pub of : Tree
  pub asked : Asked text tree table of
  pub first : FirstLacking table table.start of p

-- The text is read as a table, and the bytes' shape is wrong under its symbol list.
pub record ShapeWrong (text tree : List ℕ) (n p : ℕ) : Type 0 where
  pub table : Table
  pub read : read_table text ≡ given table
  pub cause : Cause table.arities tree n p

-- The listed causes: the text's own (1 to 5), the shape (6, 7, 8, 10, 11), a rule that is lacking (9), the room (12).
pub data WordRefused (text tree : List ℕ) (room n p : ℕ) : Type 0 where
  text_wrong : read_table text ≡ refused n p → WordRefused text tree room n p
  shape_wrong : ShapeWrong text tree n p → WordRefused text tree room n p
  rule_lacking : n ≡ 9 → RuleLacking text tree p → WordRefused text tree room n p
  room_lacking : n ≡ 12 → RoomLacking text tree room p → WordRefused text tree room n p
