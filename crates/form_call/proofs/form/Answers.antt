-- `form` meets its contract: the refusal of the judgement, or what forming the opened table answers. Assumes nothing.
use borrow.Author.Rules.{rules}
use Rattle.form_call.proofs.Readings.{late_answers, form_answers}
use Rattle.form_call.proofs.form.Goals as goal

pub returns-in_err-judge_into : goal.returns-in_err-judge_into
returns-in_err-judge_into c =
    late_answers c.judge_into.ensures _ c.in_err-judge_into.was (search rules)

pub returns : goal.returns
returns c =
    form_answers c.judge_into.ensures c.in_ok-judge_into.was c.form_opened.ensures
