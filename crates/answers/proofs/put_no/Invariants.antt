-- `put_no` meets its contract: at each turn the numbers before the next one are put.
use lib.ListN.{take}
use Rattle.output.specs.Queue.{seen, TextPut}
use Rattle.answers.specs.Lines.{blanked}
use Rattle.answers.proofs.put_no.Given as goal

abbrev pub invariant-loop-number : goal.invariant-loop-number
invariant-loop-number l =
    TextPut (blanked (take l.number-index l.numbers)) (seen l.initial.out) (seen l.out)
