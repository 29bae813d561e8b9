-- `word` meets its contract: the refusal of the text, or the word by the opened table. Assumes nothing.
use mathlib.Core.Path.{refl}
use borrow.Author.Rules.{rules}
use Rattle.word_by_text.proofs.Worded.{text_answers, table_answers}
use Rattle.word_by_text.proofs.word.Goals as goal

pub returns-in-Err : goal.returns-in-Err
returns-in-Err c =
    text_answers c.read.new.bytes c.read.new.numbers c.args.text.now c.args.tree.now c.read.ensures c.in-Err.no c.in-Err.is refl

pub returns : goal.returns
returns c =
    table_answers c.read.new.bytes c.read.new.numbers c.args.text.now c.args.tree.now c.read.ensures (search rules) c.find.ensures
