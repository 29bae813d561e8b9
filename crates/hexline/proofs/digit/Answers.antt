-- `digit` meets its contract: each of its ranges of characters is one of the definition. Assumes nothing.
use native.Mathlib.Omega.{arith}
use Rattle.hexline.proofs.Laws as law
use Rattle.hexline.proofs.digit.Goals as goal

pub returns-in-48-to-57 : goal.returns-in-48-to-57
returns-in-48-to-57 c = law.value_low c.args.c (omega arith) (omega arith)

pub returns-in-97-to-102 : goal.returns-in-97-to-102
returns-in-97-to-102 c = law.value_high c.args.c (omega arith) (omega arith)

pub returns-in_default : goal.returns-in_default
returns-in_default c = law.value_below c.args.c (omega arith)

pub returns-in_default-2 : goal.returns-in_default-2
returns-in_default-2 c = law.value_between c.args.c (omega arith) (omega arith)

pub returns-in_default-3 : goal.returns-in_default-3
returns-in_default-3 c = law.value_above c.args.c (omega arith)
