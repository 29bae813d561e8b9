-- What an answer of the word call says: the paper's number and place, or length and terms. Definitions only.
use Rattle.std.specs.Prelude.{◌≡◌, List, ℕ, Result, Ok, Err}
use Rattle.words.specs.Word.{Word}
use Rattle.words.specs.Reply.{Reply, mapped}
use Rattle.promises.specs.Room.{filled}
use Rattle.promises.specs.Word.{WordCounts, letters_of}
use Rattle.walk.specs.declared.Lack.{Lack}
use Rattle.why_no_word.specs.declared.Letters.{Letters}

-- A word's length and terms, in the paper's words.
abbrev pub counts_of : Letters → WordCounts
counts_of letters = record { length = letters.length; terms = letters.terms }

-- The answer and the room after it are those of an answer a of the definition: a word's length and terms, its letters first in the room;
-- a refusal, and the room as it was.
pub record Answers (a : Reply Word) (R R' : List ℕ) (r : Reply Letters) : Type 0 where
  pub answer : mapped counts_of r ≡ mapped letters_of a
  pub room : R' ≡ filled R a

-- Where a walk stopped.
abbrev pub place_of : Result ℕ Lack → ℕ
place_of (Ok p) = p
place_of (Err x) = x.place
