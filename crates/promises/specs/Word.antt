-- The word call: the table first (1 to 5), then the tree's shape (6, 7, 8, 10, 11), then 9, then 12. Definitions only.
use Rattle.std.specs.Prelude.{List, ℕ, length}
use Rattle.std.proofs.Math.Option.{Option, none, some}
use Rattle.words.specs.Word.{Word, terms}
use Rattle.words.specs.Reply.{Reply, given, refused, ◌then◌}
use Rattle.machine.specs.Machine.{Tree, Table, output}
use Rattle.text.specs.Reading.{read_table}
use Rattle.trees.specs.Shape.{read_tree}
use Rattle.trees.specs.Lacking.{lacks}
use Rattle.promises.specs.Room.{into, filled}

-- A word that is there, or 9 at the first position without a rule.
abbrev pub word_or : Option Word → Option ℕ → Reply Word
word_or (some w) lacking = given w
word_or none (some p) = refused 9 p
word_or none none = refused 9 0

-- The table's word on a tree, or 9.
unfoldable pub word_in : Table → Tree → Reply Word
word_in M t = word_or (output M t) (lacks M M.start t 0)

-- The word of tree bytes under a table: the shape over the whole tree comes before 9.
unfoldable pub word_on : Table → List ℕ → Reply Word
word_on M tree = read_tree M.arities tree then word_in M

-- The answer of the word call for a table text, tree bytes and so many bytes of room.
unfoldable pub word_answer : List ℕ → List ℕ → ℕ → Reply Word
word_answer text tree room = into room (read_table text then λ M. word_on M tree)

-- A word's answer holds its length and number of terms.
pub record WordCounts : Type 0 where
  pub length : ℕ
  pub terms : ℕ

-- The length and the number of terms of a word.
abbrev pub letters_of : Word → WordCounts
letters_of w = record { length = length w; terms = terms w }

-- The answer of the word call for an opened table, tree bytes and so many bytes of room.
unfoldable pub word_into : Table → List ℕ → ℕ → Reply Word
word_into M tree room = into room (word_on M tree)

-- The room after the word call.
unfoldable pub word_room : List ℕ → List ℕ → List ℕ → List ℕ
word_room text tree room = filled room (word_answer text tree (length room))
