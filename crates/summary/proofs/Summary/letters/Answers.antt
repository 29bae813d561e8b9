-- `letters` meets its contract: by the number.
use mathlib.Core.Path.{◌≡◌, sym, ap, ◌∙◌}
use native.Mathlib.Omega.{arith}
use Prim.Native.Nat.{suc, ◌-◌, ◌%◌}
use Rattle.summary.specs.Codes.{letters_told}
use Rattle.summary.proofs.Codes.{letters_none, letter_one, letters_several}
use Rattle.summary.proofs.Summary.letters.Goals as goal

pub returns-then-n-eq0 : goal.returns-then-n-eq0
returns-then-n-eq0 c =
    sym (letters_none (c.args.self.code % 1024) c.if-n-eq0.true)

pub returns-then-n-lt257 : goal.returns-then-n-lt257
returns-then-n-lt257 c =
    let one_more : c.args.self.code % 1024 ≡ suc (c.args.self.code % 1024 - 1) = omega (arith, c.if-n-eq0.false) in
    sym (ap letters_told one_more ∙ letter_one (c.args.self.code % 1024 - 1) (omega (arith, c.if-n-lt257.true)))

pub returns : goal.returns
returns c =
    sym (letters_several (c.args.self.code % 1024) (omega (arith, c.if-n-lt257.false)))
