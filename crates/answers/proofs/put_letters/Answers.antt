-- `put_letters` meets its contract.
use Rattle.output.proofs.Queues.{put_none, put_as, put_then}
use Rattle.answers.proofs.Texts.{letters_none, letters_some}
use borrow.Author.Rules.{rules}
use Rattle.answers.proofs.put_letters.Goals as goal

pub returns-then-is_empty : goal.returns-then-is_empty
returns-then-is_empty c =
    put_as (letters_none c.args.letters.now (search rules)) put_none

pub returns : goal.returns
returns c =
    put_as (letters_some c.args.letters.now (search rules)) (put_then c.put.ensures c.put_hex.ensures)
