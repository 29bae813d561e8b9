-- The length of the form's text of every table that the lent bytes and numbers mean. Definitions only.
use Rattle.std.specs.Prelude.{◌≡◌, List, ℕ, zero, ◌≤◌, length, take}
use Rattle.machine.specs.Machine.{Table}
use Rattle.machine.specs.Form.{Test, Decides, renumbered, form_of}
use Rattle.text.specs.Writing.{row_lines, write_table}
use Rattle.layout.specs.Layout.{Opened}
use Rattle.form_numbers.specs.Numbers.{NumberedByVisit}

-- The length of the lines of the first n states of O, by any numbers.
abbrev pub StatesLong : (I O : List ℕ) (n l : ℕ) → Type 0
StatesLong I O n l =
    (F : List ℕ) (M : Table) (number : ℕ → ℕ) → Opened F I M → n ≤ length O → l ≡ length (row_lines (renumbered number M.rows zero (take n O)))

-- The length of the form's text.
abbrev pub FormLong : (F I O : List ℕ) (n r : ℕ) → Type 0
FormLong F I O n r =
    (same : Test) (M : Table) (N : List ℕ) → Opened F I M → Decides same M → NumberedByVisit same M O N n → r ≡ length (write_table (form_of same M))
