-- `put_all_refused` meets its contract: at each turn the counts before the next one are put.
use lib.ListN.{take}
use Rattle.output.specs.Queue.{seen, TextPut}
use Rattle.line_counts.specs.Closing.{refused_texts}
use Rattle.line_counts.proofs.put_all_refused.Given as goal

abbrev pub invariant-loop-i : goal.invariant-loop-i
invariant-loop-i l =
    TextPut (refused_texts (take l.i l.counts)) (seen l.initial.out) (seen l.out)
