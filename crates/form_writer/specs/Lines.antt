-- What writing the form's lines promises of every table that the lent bytes and numbers mean. Definitions only.
use Rattle.std.specs.Prelude.{◌≡◌, List, ◌∷◌, ◌++◌, ℕ, zero, ◌≤◌, length, drop}
use Rattle.machine.specs.Machine.{Table}
use Rattle.machine.specs.Form.{Test, Decides, form_of}
use Rattle.text.specs.Lines.{line_of}
use Rattle.text.specs.Writing.{text_of, symbol_lines, write_table}
use Rattle.layout.specs.Layout.{Opened, Meant}
use Rattle.digits.specs.Room.{Wrote}
use Rattle.form_numbers.specs.Numbers.{NumberedByVisit}

-- The symbols' lines were written.
abbrev pub SymbolsWritten : (F I R : List ℕ) (at : ℕ) (S : List ℕ) (next : ℕ) → Type 0
SymbolsWritten F I R at S next = Meant F I (λ M. Wrote R at (symbol_lines M.arities) S next)

-- The initial rule's frame of a form with so many states: the table's words, and the initial state by its number 0.
abbrev pub initial_of : Table → ℕ → List ℕ
initial_of M states = 2 ∷ states ∷ text_of M.before ++ zero ∷ text_of M.after

-- The initial rule's line was written for so many states.
abbrev pub InitialWritten : (F I : List ℕ) (states : ℕ) (R : List ℕ) (at : ℕ) (S : List ℕ) (next : ℕ) → Type 0
InitialWritten F I states R at S next = Meant F I (λ M. Wrote R at (line_of (initial_of M states)) S next)

-- The form's text was written from the room's beginning on; `next` is its length.
abbrev pub FormTextWritten : (F I O N : List ℕ) (n : ℕ) (R S : List ℕ) (next : ℕ) → Type 0
FormTextWritten F I O N n R S next =
    (same : Test) (M : Table) → Opened F I M → Decides same M → NumberedByVisit same M O N n
    → (next ≡ length (write_table (form_of same M)))
    × (length (write_table (form_of same M)) ≤ length R → S ≡ write_table (form_of same M) ++ drop (length (write_table (form_of same M))) R)
