-- The calls on records: behind the table's own numbers 20; then the stream's 21 to 23 and the tree's 6, 10 and 9, or the tree's 6, 7, 8,
-- 10, 11 and 24; then 12. Definitions only.
use Rattle.std.specs.Prelude.{List, ℕ}
use Rattle.words.specs.Word.{Word}
use Rattle.words.specs.Reply.{Reply, ◌then◌}
use Rattle.machine.specs.Machine.{Table}
use Rattle.text.specs.Reading.{read_table}
use Rattle.records.specs.Calls.{spelled, tree_of, record_of}
use Rattle.promises.specs.Room.{into}
use Rattle.promises.specs.Word.{word_on}

-- The word of a stream's record under a table: the table's word on its image.
unfoldable pub word_of_record : Table → List ℕ → Reply Word
word_of_record M s = spelled M.arities s then word_on M

-- The tree bytes of a stream's record.
unfoldable pub tree_of_record : Table → List ℕ → Reply (List ℕ)
tree_of_record M s = tree_of M.arities s

-- The stream of the record of which tree bytes are the image.
unfoldable pub record_of_tree : Table → List ℕ → Reply (List ℕ)
record_of_tree M bs = record_of M.arities bs

-- The answer of such a call for an opened table, its input and so many bytes of room.
abbrev pub on_table : (Table → List ℕ → Reply (List ℕ)) → Table → List ℕ → ℕ → Reply (List ℕ)
on_table call M input room = into room (call M input)

-- The answer of such a call for a table text: the text's refusals come first.
abbrev pub on_text : (Table → List ℕ → Reply (List ℕ)) → List ℕ → List ℕ → ℕ → Reply (List ℕ)
on_text call text input room = into room (read_table text then λ M. call M input)
