-- `below` meets its contract. Assumes nothing.
use Rattle.text.specs.Fields as text
use Rattle.text.proofs.Fields as read
use Rattle.text.proofs.Faults.{below_lacking, below_out}
use Rattle.fields.specs.declared.Fault.TheVariants.{OutOfRange}
use Rattle.fields.proofs.Numbers as law
use Rattle.fields.proofs.Cursor.below.Goals as goal

pub returns-in_err-value-clause-read : goal.returns-in_err-value-clause-read
returns-in_err-value-clause-read c =
    law.byte_lacking (text.below c.args.n) _ _ _ c.byte.new.self.at _ _ c.from_residual.ensures.1 c.in_err-value.ensures.read (below_lacking c.args.n)

pub returns-then-value-n-clause-read : goal.returns-then-value-n-clause-read
returns-then-value-n-clause-read c =
    law.byte_read (text.below c.args.n) c.in_ok-value.ensures.read c.args.self.now.inside (read.below_read c.args.n _ _ c.if-value-n.true)

pub returns-else-value-n-clause-read : goal.returns-else-value-n-clause-read
returns-else-value-n-clause-read c =
    law.byte_refused (text.below c.args.n) c.in_ok-value.ensures.read c.args.self.now.inside OutOfRange (below_out c.args.n _ _ c.if-value-n.false)
