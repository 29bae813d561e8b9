-- `word` meets its contract. Assumes nothing.
use native.Mathlib.Omega.{arith}
use Rattle.fields.proofs.Numbers as law
use Rattle.fields.proofs.Words as word
use Rattle.fields.proofs.Cursor.word.Goals as goal

pub returns-in_err-letters-clause-read : goal.returns-in_err-letters-clause-read
returns-in_err-letters-clause-read c =
    word.word_fault c.args.self.now.frames.now c.args.self.now.at c.args.self.now.end
    c.within.new.self.at _ _ c.from_residual.ensures.1 c.in_err-letters.ensures.read

pub returns-then-letters-self-clause-read : goal.returns-then-letters-self-clause-read
returns-then-letters-self-clause-read c =
    word.word_got _ _ _ _ _ c.args.self.now.inside (law.got_number _ _ _ _ _ _ c.in_ok-letters.ensures.read) (omega (arith, c.within.ensures.end))

pub returns-else-letters-self-clause-read : goal.returns-else-letters-self-clause-read
returns-else-letters-self-clause-read c =
    word.word_lacking _ _ _ _ _ c.args.self.now.inside (law.got_number _ _ _ _ _ _ c.in_ok-letters.ensures.read) (omega (arith, c.within.ensures.end))
