-- `number` meets its contract: the numbers are read off the marks of the visit, and its order is copied.
use mathlib.Core.Path.{ap, ◌∙◌}
use Prim.Native.Nat.{◌≤◌}
use native.Mathlib.Omega.{arith}
use lib.ListN.{length, take, drop, length-take}
use Rattle.std.proofs.lemmas.List.{take-append-le}
use Rattle.form_numbers.proofs.Naming.{numbered_by_marks}
use Rattle.form_numbers.proofs.number.Goals as goal

pub copy_from_slice-requires : goal.copy_from_slice-requires
copy_from_slice-requires c = omega (arith, length-take 64 c.args.order.now)

pub returns-clause-states_numbered : goal.returns-clause-states_numbered
returns-clause-states_numbered c =
    let n = c.visit-queue.result.count in
    let inside : n ≤ length c.copy_from_slice.new.self = omega (arith, c.copy_from_slice.ensures.len, length-take 64 c.args.order.now) in
    let same = take-append-le n c.copy_from_slice.new.self (drop 64 c.args.order.now) inside ∙ ap (take n) c.copy_from_slice.ensures.after in
    λ F M o. numbered_by_marks M (c.visit-queue.ensures F M o) same c.fill.ensures
