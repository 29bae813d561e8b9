-- `put_byte` meets its contract: two digits.
use mathlib.Core.List.{◌∷◌, []}
use Rattle.text.specs.Lines.{hex_of}
use Rattle.digits.proofs.Room.{wrote_then, wrote_as}
use Rattle.digits.proofs.Pen.put_byte.Goals as goal

pub returns-then-self-clause-wrote : goal.returns-then-self-clause-wrote
unfolding hex_of
returns-then-self-clause-wrote c =
    wrote_as (λ i. c.digit.ensures i ∷ c.digit-then-self.ensures i ∷ []) (wrote_then c.put.ensures.wrote c.put-then-self.ensures.wrote)
