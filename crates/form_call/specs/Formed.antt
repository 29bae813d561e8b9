-- What forming a table text answers. Definitions only.
use Rattle.std.specs.Prelude.{◌≡◌, List, ℕ, length}
use Rattle.words.specs.Reply.{Reply, given, mapped}
use Rattle.machine.specs.Machine.{Table}
use Rattle.machine.specs.Form.{IsForm}
use Rattle.text.specs.Writing.{write_table}
use Rattle.promises.specs.Form.{FormAnswer}
use Rattle.promises.specs.Room.{into, filled}

-- The answer, the form's length or the no, and the room after it are those of an answer of the definition.
pub record FormAnswered (text R R' : List ℕ) (r : Reply ℕ) : Type 0 where
  pub reply : Reply (List ℕ)
  pub answer : FormAnswer text (length R) reply
  pub told : r ≡ mapped length reply
  pub room : R' ≡ filled R reply

-- For a table M that is earliest: the answer and the room are those of its form's text.
pub record FormInto (M : Table) (R R' : List ℕ) (r : Reply ℕ) : Type 0 where
  pub form : Table
  pub is : IsForm M form
  pub answer : r ≡ mapped length (into (length R) (given (write_table form)))
  pub room : R' ≡ filled R (into (length R) (given (write_table form)))
