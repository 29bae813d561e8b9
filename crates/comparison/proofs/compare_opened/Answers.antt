-- `compare_opened` meets its contract: 19, or whether the forms are one. Assumes nothing.
use Rattle.comparison.proofs.Forms.{lists_apart, forms_told}
use Rattle.comparison.proofs.compare_opened.Goals as goal

pub returns-in-Some : goal.returns-in-Some
returns-in-Some c =
    λ M N o E p D. lists_apart (c.same_forms-same.ensures M N o E p D) c.symbols_part-parted.result (c.symbols_part-parted.ensures M N o p)
    c.in-Some.place c.in-Some.is

pub returns-in-None : goal.returns-in-None
returns-in-None c =
    λ M N o E p D. forms_told c.same_forms-same.result (c.same_forms-same.ensures M N o E p D) c.symbols_part-parted.result
    (c.symbols_part-parted.ensures M N o p) c.in-None.is
