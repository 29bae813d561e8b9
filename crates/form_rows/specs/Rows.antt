-- What writing the rules' lines promises of every table that the lent bytes and numbers mean. Definitions only.
use Rattle.std.specs.Prelude.{◌≡◌, List, ◌∷◌, map, ℕ, zero, ◌≤◌, length, get_or, take}
use Rattle.std.proofs.lemmas.List.Edits.{sets}
use Rattle.machine.specs.Machine.{Rule, Row, Table}
use Rattle.machine.specs.Form.{rows_of, renumber, renumbered}
use Rattle.form_laws.specs.Listed.{numbered_rule}
use Rattle.text.specs.Lines.{hex_of, line_of}
use Rattle.text.specs.Writing.{row_frame, row_lines}
use Rattle.layout.specs.Layout.{Opened, rule_text, Meant}
use Rattle.layout.specs.Leaves.{RowAt}
use Rattle.digits.specs.Room.{Wrote}

-- The number that N has for a state.
abbrev pub named : List ℕ → ℕ → ℕ
named N q = get_or N q 0

-- Where the digits of a rule's bytes T were written at `at`, the states' digits are their numbers' now.
abbrev pub Renamed : (T N : List ℕ) (at : ℕ) (S S' : List ℕ) → Type 0
Renamed T N at S S' = (R : List ℕ) (r : Rule) → T ≡ rule_text r → S ≡ sets R at (hex_of T) → S' ≡ sets R at (hex_of (rule_text (numbered_rule (named N) r)))

-- The line of a rule with the bytes T was written under number n and symbol f.
abbrev pub RowWritten : (T : List ℕ) (n f : ℕ) (N R : List ℕ) (at : ℕ) (S : List ℕ) (next : ℕ) → Type 0
RowWritten T n f N R at S next = (r : Rule) → T ≡ rule_text r → Wrote R at (line_of (3 ∷ n ∷ f ∷ rule_text (numbered_rule (named N) r))) S next

-- The line of rule number i was written under number n.
abbrev pub RuleWritten : (F I : List ℕ) (i n : ℕ) (N R : List ℕ) (at : ℕ) (S : List ℕ) (next : ℕ) → Type 0
RuleWritten F I i n N R at S next = (M : Table) (r : Row) → Opened F I M → RowAt M i r → Wrote R at (line_of (row_frame (renumber (named N) n r))) S next

-- The lines of state q were written under number n.
abbrev pub RulesWritten : (F I : List ℕ) (q n : ℕ) (N R : List ℕ) (at : ℕ) (S : List ℕ) (next : ℕ) → Type 0
RulesWritten F I q n N R at S next = Meant F I (λ M. Wrote R at (row_lines (map (renumber (named N) n) (rows_of M.rows q))) S next)

-- The lines of the first n states of O were written, each under its place there.
abbrev pub StatesWritten : (F I O : List ℕ) (n : ℕ) (N R : List ℕ) (at : ℕ) (S : List ℕ) (next : ℕ) → Type 0
StatesWritten F I O n N R at S next = Meant F I (λ M. n ≤ length O → Wrote R at (row_lines (renumbered (named N) M.rows zero (take n O))) S next)
