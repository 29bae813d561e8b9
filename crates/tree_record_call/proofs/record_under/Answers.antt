-- `record_under` meets its contract: 6 for the size, the refusal of the image, or what is told of its stream in the room. Assumes nothing.
use mathlib.Core.Path.{refl, sym, ◌∙◌}
use mathlib.Core.Logic.{⊎_elim, inl, inr}
use native.Mathlib.Omega.{arith}
use borrow.Author.Rules.{rules}
use Rattle.spelling.proofs.Answered.{spells_refused}
use Rattle.tree_record_call.proofs.Answers.{size_refused, image_refused, image_given, given_spells}
use Rattle.tree_record_call.proofs.record_under.Goals as goal

pub returns-then-is_empty : goal.returns-then-is_empty
returns-then-is_empty c =
    λ M o e.
    spells_refused c.args.room.now
    (size_refused M c.args.tree.now c.args.last e (⊎_elim (λ w. inl (search rules)) (λ w. inr w.1) c.then-is_empty.either)) refl

pub returns-in_err-check : goal.returns-in_err-check
returns-in_err-check c =
    λ M o e.
    spells_refused c.args.room.now
    (image_refused M c.args.tree.now c.args.last e (sym c.in_err-check.was ∙ c.check.ensures M o e)) (search rules)

pub returns : goal.returns
returns c =
    λ M o e.
    given_spells c.args.room.now _
    (image_given M c.args.tree.now c.args.last e (omega (arith, c.ranges.last)) (search rules)
    (sym c.in_ok-check.was ∙ c.check.ensures M o e))
    c.put.ensures
