-- `rules_of_full` meets its contract: from the first rule of the state to that of the next.
use Prim.Native.Nat.{◌<◌, ◌≤◌}
use native.Mathlib.Omega.{arith}
use Rattle.rule_leaves.proofs.Ranges.{range, no_range}
use Rattle.rule_leaves.proofs.full.rules_of_full.Goals as goal
use Rattle.rule_leaves.proofs.full.rules_of_full.Goals.{then-q-ge-STATES-via-then-q-ge-STATES, then-q-ge-STATES-via-else-q-ge-STATES+then-numbers-q}

pub returns-then-q-ge-STATES-clause-meant_by : goal.returns-then-q-ge-STATES-clause-meant_by
returns-then-q-ge-STATES-clause-meant_by c =
    λ F M o.
    let beyond : M.states ≤ c.args.q = elim c.then-q-ge-STATES.branch [
      | then-q-ge-STATES-via-then-q-ge-STATES w ↦ omega (arith, o.limited.states, w.if-q-ge-STATES.true)
      | then-q-ge-STATES-via-else-q-ge-STATES+then-numbers-q w ↦ omega (arith, o.head.states, w.if-numbers-q.true)
    ] in
    no_range M o.limited.made.rows c.args.q beyond

pub returns-clause-meant_by : goal.returns-clause-meant_by
returns-clause-meant_by c =
    λ F M o.
    let low : c.args.q < M.states = omega (arith, o.head.states, c.if-numbers-q.false) in
    range M o.limited.made.rising c.args.q c.first_of_full.result c.first_of_full-2.result (c.first_of_full.ensures.meant_by F M o (omega (arith, low)))
    (c.first_of_full-2.ensures.meant_by F M o (omega (arith, low)))
