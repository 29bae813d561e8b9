-- `letters_joined` meets its contract: no letter adds nothing, equal letters stay, different ones are several.
use borrow.Author.Rules.{rules}
use native.Mathlib.Omega.{arith}
use Rattle.summary.proofs.Codes.{joined_first, joined_second, joined_other, letters_several}
use mathlib.Core.Path.{◌∙◌}
use Rattle.summary.proofs.letters_joined.Goals as goal

pub returns-then-a-eq0 : goal.returns-then-a-eq0
returns-then-a-eq0 c =
    (joined_first _ _ c.if-a-eq0.true, search rules)

pub returns-then-b-eq0 : goal.returns-then-b-eq0
returns-then-b-eq0 c =
    (joined_second _ _ c.if-b-eq0.true, search rules)

pub returns : goal.returns
returns c =
    (letters_several 257 (omega arith) ∙ joined_other _ _ c.if-a-eq0.false c.if-b-eq0.false c.if-a-b.false, omega arith)
