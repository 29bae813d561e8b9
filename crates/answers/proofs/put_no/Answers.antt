-- `put_no` meets its contract: at each turn the numbers before the next one are put.
use mathlib.Core.Path.{ap}
use lib.Seq.{take_all}
use Rattle.answers.specs.Lines.{blanked}
use Rattle.output.proofs.Queues.{put_none, put_as, put_then}
use Rattle.answers.proofs.Texts.{blanked_next}
use borrow.Author.Rules.{rules}
use Rattle.answers.proofs.put_no.Goals as goal

pub loop-number-init : goal.loop-number-init
unfolding blanked
loop-number-init c =
    put_none

pub loop-number-preserved : goal.loop-number-preserved
loop-number-preserved c =
    put_as (blanked_next c.args.numbers.now c.loop-number.number-index (search rules))
    (put_then (put_then c.loop-number.invariant c.put.ensures) c.put_number.ensures)

pub returns : goal.returns
returns c =
    put_then
    (put_then c.put_all.ensures (put_as (ap blanked (take_all c.loop-number.number-index c.args.numbers.now (search rules))) c.loop-number.invariant))
    c.put-2.ensures
