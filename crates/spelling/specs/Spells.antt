-- What a call answers that writes bytes to the front of a room. Definitions only.
use Rattle.std.specs.Prelude.{◌≡◌, List, ℕ, length}
use Rattle.words.specs.Reply.{Reply, mapped}
use Rattle.promises.specs.Room.{filled}

-- The answer, how many bytes or the no, and the room after it are those of an answer a of the definition: its bytes first in the room;
-- a refusal, and the room as it was.
pub record Spells (a : Reply (List ℕ)) (R R' : List ℕ) (r : Reply ℕ) : Type 0 where
  pub answer : r ≡ mapped length a
  pub room : R' ≡ filled R a
