-- `spaces_in` meets its contract.
use borrow.Author.Rules.{rules}
use native.Mathlib.Omega.{arith}
use Rattle.terms.proofs.Spaces as law
use Rattle.terms.proofs.spaces_in.Goals as goal

pub loop-letter-init : goal.loop-letter-init
loop-letter-init c =
    omega (arith, law.spaces_none)

pub loop-letter-preserved : goal.loop-letter-preserved
loop-letter-preserved c = (
  law.counted c.args.piece.now c.loop-letter.letter-index c.loop-letter.n c.one-n.result (omega arith) c.loop-letter.invariant.0 c.one-n.ensures.0,
  search rules,
)
