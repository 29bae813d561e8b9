-- The line that answers a line of hexadecimal, and where it is counted. Definitions only.
use Rattle.std.specs.Prelude.{◌≡◌, Bool, true, false, List, [], ◌∷◌, ℕ, length}
use Rattle.std.specs.Borrow.{MutBor}
use Rattle.std.proofs.Math.Option.{Option, none, some}
use Rattle.words.specs.Word.{terms}
use Rattle.words.specs.Reply.{Reply, given, refusal, ◌then◌}
use Rattle.machine.specs.Machine.{Table}
use Rattle.text.specs.Lines.{bytes_of}
use Rattle.promises.specs.Word.{word_into}
use Rattle.promises.specs.Records.{word_of_record, tree_of_record, record_of_tree, on_table}
use Rattle.output.specs.Queue.{Waiting, TextPut}
use Rattle.answers.specs.Lines.{word_line, bytes_line, no_line}
use Rattle.respond.specs.declared.Asked.{Asked}
use Rattle.respond.specs.declared.Asked.TheVariants as asked

-- A lent room is still the same, and as long.
abbrev pub SameRoom : MutBor (List ℕ) → MutBor (List ℕ) → Type 0
SameRoom room room' = (room'.ghost_name ≡ room.ghost_name) × (length room'.now ≡ length room.now)

-- Whether the bytes are a record's stream.
abbrev pub of_stream : Asked → Bool
of_stream asked.Word = false
of_stream asked.RecordWord = true
of_stream asked.RecordTree = true
of_stream asked.TreeRecord = false

-- The answer of the call that is asked for, for an opened table, these bytes and so much room.
abbrev pub reply_to : Asked → Table → List ℕ → ℕ → Reply (List ℕ)
reply_to asked.Word M bs room = word_into M bs room
reply_to asked.RecordWord M bs room = on_table word_of_record M bs room
reply_to asked.RecordTree M bs room = on_table tree_of_record M bs room
reply_to asked.TreeRecord M bs room = on_table record_of_tree M bs room

-- The line of a word.
abbrev pub letters_line : List ℕ → List ℕ
letters_line w = word_line (terms w) w

-- "tree", "record".
abbrev pub tree_name : List ℕ
tree_name = 0x74 ∷ 0x72 ∷ 0x65 ∷ 0x65 ∷ []

abbrev pub record_name : List ℕ
record_name = 0x72 ∷ 0x65 ∷ 0x63 ∷ 0x6f ∷ 0x72 ∷ 0x64 ∷ []

-- The line of what that call gives.
abbrev pub given_line : Asked → List ℕ → List ℕ
given_line asked.Word w = letters_line w
given_line asked.RecordWord w = letters_line w
given_line asked.RecordTree bs = bytes_line tree_name bs
given_line asked.TreeRecord bs = bytes_line record_name bs

-- The line of an answer, where what is given has the line that text says.
abbrev pub answer_line : (List ℕ → List ℕ) → Reply (List ℕ) → List ℕ
answer_line text (given w) = text w
answer_line text (refusal x) = no_line (x.number ∷ x.place ∷ [])

-- Where that answer is counted.
abbrev pub counted_at : Reply (List ℕ) → ℕ
counted_at (given w) = 0
counted_at (refusal x) = x.number

-- The answer a was put as a line, and is counted in its place.
pub record Responds (text : List ℕ → List ℕ) (a : Reply (List ℕ)) (O O' : Waiting) (counted_as : ℕ) : Type 0 where
  pub line : TextPut (answer_line text a) O O'
  pub counted : counted_as ≡ counted_at a

-- "not hex", and a line feed.
abbrev pub not_hex : List ℕ
not_hex = 0x6e ∷ 0x6f ∷ 0x74 ∷ 0x20 ∷ 0x68 ∷ 0x65 ∷ 0x78 ∷ 0x0a ∷ []

-- That was put for a line that is not hexadecimal, and is counted at 25.
pub record Strange (O O' : Waiting) (counted_as : ℕ) : Type 0 where
  pub line : TextPut not_hex O O'
  pub counted : counted_as ≡ 25

-- The answer to a line with these bytes, or none: not hexadecimal first, then the table's refusal, then the call's answer.
abbrev pub Answered : Asked → Reply Table → Option (List ℕ) → ℕ → Waiting → Waiting → ℕ → Type 0
Answered k t none room O O' r = Strange O O' r
Answered k t (some bs) room O O' r = Responds (given_line k) (t then λ M. reply_to k M bs room) O O' r

-- The line that answers a line of these characters.
unfoldable pub line_answer : Asked → Reply Table → ℕ → List ℕ → List ℕ
line_answer k t room cs = elim (bytes_of cs) [ none ↦ not_hex | some bs ↦ answer_line (given_line k) (t then λ M. reply_to k M bs room) ]
