-- When the calls on records give and refuse, said of the table, the record and its image. Definitions only.
use Rattle.std.specs.Prelude.{◌≡◌, List, ℕ, ◌≤◌, length}
use Rattle.words.specs.Reply.{given, refused}
use Rattle.machine.specs.Machine.{Tree, Table}
use Rattle.text.specs.Reading.{read_table}
use Rattle.trees.specs.Preorder.{preorder}
use Rattle.trees.specs.Shape.{read_tree, depth_most}
use Rattle.records.specs.Records.{Element, Labels, bytes_of, size, image}
use Rattle.records.specs.Symbols.{RecordSymbols, FirstWrong}
use Rattle.records.specs.Causes.{StreamCause}
use Rattle.records.specs.Depth.{depth}

-- The text is read as table M, whose symbol list is one for records with last symbol a; the stream is that of record r, whose labels are in
-- the list.
pub record Sent (text stream : List ℕ) (M : Table) (a : ℕ) (r : Element) : Type 0 where
  pub read : read_table text ≡ given M
  pub symbols : RecordSymbols M.arities a
  pub labels : Labels a r
  pub bytes : stream ≡ bytes_of r

-- The text, its symbol list or the stream is wrong: 1 to 5; 20 at the first wrong index; 21, 22 or 23 for its cause.
pub data SendingWrong (text stream : List ℕ) (n p : ℕ) : Type 0 where
  text_wrong : read_table text ≡ refused n p → SendingWrong text stream n p
  symbols_wrong : (M : Table) → read_table text ≡ given M → n ≡ 20 → FirstWrong M.arities p → SendingWrong text stream n p
  stream_wrong : (M : Table) (a : ℕ) → read_table text ≡ given M → RecordSymbols M.arities a → StreamCause a stream n p
      → SendingWrong text stream n p

-- That record's image has at most 64 levels, siblings counted, and at most 32,768 symbols; bs are its bytes, and they have room.
pub record ImageGiven (text stream : List ℕ) (room : ℕ) (bs : List ℕ) : Type 0 where
  pub table : Table
  pub last : ℕ
  pub of : Element
  pub sent : Sent text stream table last of
  pub image : bs ≡ preorder (image last of)
  pub levels : depth of ≤ depth_most
  pub elements : size of ≤ 16383
  pub fits : length bs ≤ room

-- The text is read as a table with a list for records, and the bytes are a tree under it that is no record's image.
pub record ImageOfNone (text bytes : List ℕ) : Type 0 where
  pub table : Table
  pub last : ℕ
  pub of : Tree
  pub read : read_table text ≡ given table
  pub symbols : RecordSymbols table.arities last
  pub tree : read_tree table.arities bytes ≡ given of
  pub none : (r : Element) → of ≡ image last r → ⊥
