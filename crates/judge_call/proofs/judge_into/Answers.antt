-- `judge_into` meets its contract: the judgement of the opened table. Assumes nothing.
use borrow.Author.Rules.{rules}
use Rattle.judge_call.proofs.Readings.{table_judges}
use Rattle.judge_call.proofs.judge_into.Goals as goal

pub returns : goal.returns
returns c =
    table_judges c.read.new.bytes c.read.new.numbers c.read.ensures (search rules) c.judge_opened.ensures
