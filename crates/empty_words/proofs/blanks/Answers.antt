-- `blanks` meets its contract.
use native.Mathlib.Omega.{arith}
use Rattle.layout.specs.Layout.{Opened}
use Rattle.layout.proofs.Means.{read_by}
use Rattle.summary.proofs.Growing.{grown_less}
use Rattle.empty_words.proofs.Empty.{zeros_blanks}
use Rattle.empty_words.proofs.Marks.{marked_told}
use Rattle.empty_words.proofs.blanks.Goals as goal

pub loop-numbers-init : goal.loop-numbers-init
loop-numbers-init c =
    λ F M o. zeros_blanks M c.args.values.now c.requires

pub loop-numbers-smaller : goal.loop-numbers-smaller
loop-numbers-smaller c =
    grown_less c.blank_states-k.ensures.grown (omega arith) (λ z. omega arith)

pub loop-numbers-preserved : goal.loop-numbers-preserved
loop-numbers-preserved c =
    λ F M o. (c.blank_states-k.ensures.marks F M o).keeps (c.loop-numbers.invariant F M o)

pub returns-clause-meant_by : goal.returns-clause-meant_by
returns-clause-meant_by c =
    λ F M o.
    let as_read : Opened F c.in-Ok.numbers.now M = read_by c.in-Ok.ensures.1.same o in
    (c.blank_states-k.ensures.marks F M as_read).keeps (c.loop-numbers.invariant F M as_read)

pub returns-clause-meant_by_2 : goal.returns-clause-meant_by_2
returns-clause-meant_by_2 c =
    λ F M o listed.
    let as_read : Opened F c.in-Ok.numbers.now M = read_by c.in-Ok.ensures.1.same o in
    marked_told M as_read c.args.order.now c.args.n listed (c.blank_states-k.ensures.marks F M as_read) (omega arith)
    ((c.blank_states-k.ensures.marks F M as_read).keeps (c.loop-numbers.invariant F M as_read))
