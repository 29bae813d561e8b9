-- `meet_rules` meets its contract: whatever meets the child states by the rules that remain meets those by all.
use mathlib.Core.List.{List}
use Prim.Native.Nat.{ℕ}
use lib.Seq.{slice}
use Rattle.machine.specs.Machine.{Table}
use Rattle.machine.specs.Form.{child_states}
use Rattle.layout.specs.Layout.{Opened}
use Rattle.form_laws.specs.Listed.{kids}
use Rattle.visit_queue.specs.Queue.{StatesMet}
use Rattle.visit_queue.specs.declared.queue.Queue.{Queue}
use Rattle.visit_queue.proofs.queue.Queue.meet_rules.Given as goal

abbrev pub invariant-loop-i : goal.invariant-loop-i
invariant-loop-i l =
    (F : List ℕ) (M : Table) (b : Queue) → Opened F l.numbers M → StatesMet l.rep (child_states (slice l.i l.i-end M.rows)) l.self b
    → StatesMet l.rep (kids M l.q) l.initial.self b
