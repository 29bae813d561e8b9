-- The lines of a piece of the input, answered one after the other. Definitions only.
use Rattle.std.specs.Prelude.{◌≡◌, List, [], ◌++◌, ℕ, ◌+◌, ◌*◌, ◌<◌, ◌≤◌, length, take, get_or}
use Rattle.words.specs.Reply.{Reply}
use Rattle.machine.specs.Machine.{Table}
use Rattle.text.specs.Lines.{Lines, behind, line, lines_of}
use Rattle.trees.specs.Shape.{tree_most}
use Rattle.table.specs.Opening.{Opens}
use Rattle.long_line.specs.Held.{count_most, LongHeld}
use Rattle.long_line.specs.declared.LongLine.{LongLine}
use Rattle.output.specs.Queue.{Waiting, TextPut}
use Rattle.respond.specs.Response.{line_answer}
use Rattle.respond.specs.declared.Asked.{Asked}

-- No line feed is among the characters.
abbrev pub FeedFree : List ℕ → Type 0
FeedFree cs = (k : ℕ) → k < length cs → get_or cs k 0 ≡ 0x0a → ⊥

-- The answers to all whole lines, one after the other.
unfoldable pub answers_to : Asked → Reply Table → ℕ → Lines → List ℕ
answers_to a t room (behind l) = []
answers_to a t room (line l ls) = line_answer a t room l ++ answers_to a t room ls

-- What stands behind the last line feed.
unfoldable pub last_of : Lines → List ℕ
last_of (behind l) = l
last_of (line l ls) = last_of ls

-- The answers to all whole lines were put, and the line so far tells of the characters behind the last line feed, fewer than k held.
pub record LinesAnswered (a : Asked) (F I : List ℕ) (t : Reply Table) (room : ℕ) (ls : Lines) (O O' : Waiting) (k : ℕ)
    (tree : List ℕ) (l : LongLine) : Type 0 where
  pub answers : TextPut (answers_to a t room ls) O O'
  pub held : LongHeld F I k (last_of ls) tree l

-- How many characters are held at most, after so many of the piece: none are lost where the tree has places for so many bytes.
abbrev pub held_most : ℕ → ℕ
held_most at = 2 * tree_most + 2 + at

-- The loop over a piece: the answers to the lines that end before `at` were put, whatever characters came before the piece.
pub record PieceSoFar (a : Asked) (F I T₀ : List ℕ) (l₀ : LongLine) (o : Reply (Unit {0})) (room : ℕ) (piece : List ℕ) (O₀ : Waiting) (at : ℕ)
    (O : Waiting) (T : List ℕ) (l : LongLine) : Type 0 where
  pub inside : at ≤ length piece
  pub long : length T ≡ length T₀
  pub left : (cs : List ℕ) (t : Reply Table) → FeedFree cs → length cs + length piece < count_most → held_most (length piece) ≤ 2 * length T₀
      → LongHeld F I (held_most 0) cs T₀ l₀ → Opens F I t o
      → LinesAnswered a F I t room (lines_of (cs ++ take at piece)) O₀ O (held_most at) T l
