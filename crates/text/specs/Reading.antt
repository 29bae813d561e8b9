-- Reading a table text: number 1 first, then the lines in turn, the first faulty one answering. Definitions only.
use Rattle.std.specs.Prelude.{◌||◌, List, [], ◌∷◌, ℕ, suc, ◌+◌, eqb, ltb, length}
use Rattle.std.proofs.Math.Option.{Option, none, some}
use Rattle.words.specs.Reply.{Reply, given, refused, refuse_if}
use Rattle.machine.specs.Machine.{Table}
use Rattle.text.specs.Limits.{text_most}
use Rattle.text.specs.Lines.{bytes_of, Lines, behind, line, lines_of}
use Rattle.text.specs.Frames.{Stage, symbols, rules, ended, Step, next, wrong, step}

-- What a line makes of the stage: 2 for a line that is no bytes, else what its frame makes of it.
abbrev pub step_line : Stage → Option (List ℕ) → Step
step_line s none = wrong 2
step_line s (some frame) = step s frame

-- At the text's end the end frame has been read: 3 at the text's length if it is lacking.
abbrev pub finish : Stage → ℕ → Reply Table
finish (symbols arities) p = refused 3 p
finish (rules M) p = refused 3 p
finish (ended M) p = given M

-- The lines in turn, the first of them from place p on: a faulty line's number, with the start of the line for its place.
unfoldable pub read_lines : Stage → ℕ → Lines → Reply Table
read_lines s p (behind []) = finish s p
read_lines s p (behind (c ∷ cs)) = refused 2 p
read_lines s p (line l ls) = elim (step_line s (bytes_of l)) [ next s' ↦ read_lines s' (p + suc (length l)) ls | wrong n ↦ refused n p ]

-- The table of a text, or its refusal.
unfoldable pub read_table : List ℕ → Reply Table
read_table t = refuse_if (eqb (length t) 0 || ltb text_most (length t)) 1 0 (read_lines (symbols []) 0 (lines_of t))
