-- `read_lines` meets its contract. The loop's invariant: the lines before the reader are read, and those that are left decide. The measure is what
-- is left of the text. Assumes nothing.
use mathlib.Core.Path.{◌≡◌}
use mathlib.Core.List.{List}
use Prim.Native.Nat.{ℕ, ◌-◌}
use lib.ListN.{length}
use Rattle.table_lines.proofs.LineByLine.{ReadUpTo}
use Rattle.table_lines.proofs.read_lines.Given as goal

abbrev pub invariant-loop-frame : goal.invariant-loop-frame
invariant-loop-frame l =
    ◌≡◌ {A = List ℕ} l.reader.text.now l.text × ReadUpTo l.text l.bytes l.rules l.st l.reader.at

abbrev pub decreases-loop-frame : goal.decreases-loop-frame
decreases-loop-frame l =
    length l.text - l.reader.at
