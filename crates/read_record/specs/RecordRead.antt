-- What reading a stream under a symbol list answers. Definitions only.
use Rattle.std.specs.Prelude.{◌≡◌, List, ℕ, ◌<◌, length}
use Rattle.words.specs.Reply.{Reply, given, refusal, ◌then◌}
use Rattle.trees.specs.Shape.{read_tree, tree_most}
use Rattle.records.specs.Records.{Element}
use Rattle.records.specs.Symbols.{last_symbol}
use Rattle.records.specs.Stream.{read_record}
use Rattle.records.specs.Calls.{spelled}

-- The list has last symbol a, and the stream is that of a record whose image has at most 32,768 symbols.
pub record ReadUnder (ar s : List ℕ) (a : ℕ) : Type 0 where
  pub element : Element
  pub symbols : last_symbol ar ≡ given a
  pub read : read_record a s ≡ given element
  pub few : length s < tree_most

-- That, or the refusal of the stream or of its image as a tree.
abbrev pub RecordRead : List ℕ → List ℕ → Reply ℕ → Type 0
RecordRead ar s (given a) = ReadUnder ar s a
RecordRead ar s (refusal x) = (spelled ar s then read_tree ar) ≡ refusal x

-- A stream that was read as a record is short enough for its image, whatever the table.
abbrev pub FewRead : List ℕ → Reply ℕ → Type 0
FewRead s (given a) = length s < tree_most
FewRead s (refusal x) = Unit {0}
