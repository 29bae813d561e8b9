-- `within` meets its contract. Assumes nothing.
use mathlib.Core.Logic.{⊎_elim}
use Rattle.text.specs.Fields as text
use Rattle.text.proofs.Fields as read
use Rattle.text.proofs.Faults.{within_lacking, within_small, within_large}
use Rattle.fields.specs.declared.Fault.TheVariants.{OutOfRange}
use Rattle.fields.proofs.Numbers as law
use Rattle.fields.proofs.Cursor.within.Goals as goal

pub returns-in_err-value-clause-read : goal.returns-in_err-value-clause-read
returns-in_err-value-clause-read c =
    law.byte_lacking (text.within c.args.least c.args.most) _ _ _ c.byte.new.self.at _ _ c.from_residual.ensures.1 c.in_err-value.ensures.read
    (within_lacking c.args.least c.args.most)

pub returns-then-value-least-clause-read : goal.returns-then-value-least-clause-read
returns-then-value-least-clause-read c =
    law.byte_refused (text.within c.args.least c.args.most) c.in_ok-value.ensures.read c.args.self.now.inside OutOfRange
    (⊎_elim (λ w. within_small c.args.least c.args.most _ _ w) (λ w. within_large c.args.least c.args.most _ _ w.0 w.1) c.then-value-least.either)

pub returns-clause-read : goal.returns-clause-read
returns-clause-read c =
    law.byte_read (text.within c.args.least c.args.most) c.in_ok-value.ensures.read c.args.self.now.inside
    (read.within_read c.args.least c.args.most _ _ c.if-value-least.false c.if-most-value.false)
