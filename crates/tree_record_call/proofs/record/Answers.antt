-- `record` meets its contract: 20 for the list, or the record under its last symbol. Assumes nothing.
use mathlib.Core.Path.{sym, ◌∙◌}
use borrow.Author.Rules.{rules}
use Rattle.spelling.proofs.Answered.{spells_refused}
use Rattle.tree_record_call.proofs.Answers.{symbols_refused}
use Rattle.tree_record_call.proofs.record.Goals as goal

pub returns-in_err-last : goal.returns-in_err-last
returns-in_err-last c =
    λ M o.
    spells_refused c.args.room.now (symbols_refused M c.args.tree.now (sym c.in_err-last.was ∙ c.last_symbol.ensures M o)) (search rules)

pub returns : goal.returns
returns c =
    λ M o. c.record_under.ensures M o (sym (c.last_symbol.ensures M o) ∙ c.in_ok-last.was)
