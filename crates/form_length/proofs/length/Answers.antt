-- `length` meets its contract: the lengths of the pieces of the form's text.
use mathlib.Core.Path.{◌≡◌, ap, ◌∙◌}
use native.Mathlib.Omega.{arith}
use Prim.Native.Nat.{ℕ}
use lib.ListN.{length, take}
use Rattle.machine.specs.Form.{order, number_in, renumbered}
use Rattle.text.specs.Writing.{row_lines}
use Rattle.form_numbers.proofs.Naming.{order_there, count_within}
use Rattle.form_length.proofs.Lengths.{form_long}
use Rattle.form_length.proofs.length.Goals as goal

pub returns : goal.returns
returns c =
    λ same M N o D h.
    let n : c.most.result ≡ c.args.n = c.most.ensures.1 (count_within h o.limited D) in
    let number = number_in same (order same M) in
    let r = c.states_length-rules.ensures.states_long c.args.table.now.frames.now M number o (omega (arith, order_there h))
    ∙ ap (λ (k : ℕ). length (row_lines (renumbered number M.rows 0 (take k c.args.order.now)))) n in
    form_long same M c.args.order.now c.args.n c.symbols.result (length c.word_before-before.result.now) (length
    c.word_after-after.result.now) c.states_length-rules.result h.listed
    (c.symbols.ensures.meant_by c.args.table.now.frames.now M o) (ap length (c.word_before-before.ensures.meant M o)) (ap length
    (c.word_after-after.ensures.meant M o)) r
