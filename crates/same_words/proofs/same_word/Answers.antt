-- `same_word` meets its contract: the words that stand at the spots are compared.
use mathlib.Core.Path.{sym, ◌∙◌}
use Rattle.words.proofs.Told.{told_map}
use Rattle.same_words.proofs.same_word.Goals as goal

pub returns : goal.returns
returns c =
    λ u v cs ds s t.
    let x = c.word_at.ensures.result_value u cs s in
    let y = c.word_at-2.ensures.result_value v ds t in
    told_map (λ e. sym x ∙ e ∙ y) (λ e. x ∙ e ∙ sym y) c.same_letters.ensures
