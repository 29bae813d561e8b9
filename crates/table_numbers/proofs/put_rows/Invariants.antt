-- `put_rows` meets its contract. The loop's invariant: the rows before the i-th are put. Assumes nothing.
use lib.ListN.{get_or}
use Rattle.head_frames.specs.Staged.{blank}
use Rattle.table_numbers.specs.Storing.{NumbersPut}
use Rattle.table_numbers.proofs.put_rows.Given as goal

abbrev pub invariant-loop-i : goal.invariant-loop-i
invariant-loop-i l =
    NumbersPut (λ k. (get_or l.rules k blank).row) 80 l.i l.initial.numbers l.numbers
