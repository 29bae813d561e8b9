-- `blank_state` meets its contract: a state without a place, one for which something is kept already, one with such a rule, one without.
use native.Mathlib.Omega.{arith}
use mathlib.Core.Path.{◌≡◌, subst}
use lib.ListN.{get_or}
use Rattle.summary.specs.Codes.{untold}
use Rattle.summary.specs.declared.Summary.{Summary}
use borrow.Author.Rules.{rules}
use Rattle.empty_words.specs.Blank.{BlankOf}
use Rattle.empty_words.proofs.Marks.{grown_blank, marked_none, marked_one}
use Rattle.empty_words.proofs.blank_state.Goals as goal

pub returns-then-has_blank-clause-grown : goal.returns-then-has_blank-clause-grown
returns-then-has_blank-clause-grown c =
    let same : ◌≡◌ {A = Summary} (get_or c.args.values.now c.args.q untold) untold = search rules in
    grown_blank c.args.values.now c.args.q (omega arith) same

pub returns-then-has_blank-clause-marks : goal.returns-then-has_blank-clause-marks
returns-then-has_blank-clause-marks c =
    λ F M o. marked_one c.args.values.now c.args.q (omega arith) o.limited.made.rising ((c.has_blank.ensures F M o).if_true c.if-has_blank.true)

pub returns-clause-marks : goal.returns-clause-marks
returns-clause-marks c =
    λ F M o. marked_none c.args.values.now (λ p h e b z. (c.has_blank.ensures F M o).if_false c.if-has_blank.false (subst (λ i. BlankOf M
    c.args.values.now i) e b))
