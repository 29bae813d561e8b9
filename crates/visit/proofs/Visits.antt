-- The visit of an opened table's states, step by step.
use mathlib.Core.Path.{◌≡◌, refl, sym, ap, subst, ◌∙◌}
use mathlib.Core.List.{List, [], ◌∷◌}
use Prim.Native.Nat.{ℕ, zero, suc, ◌+◌, ◌<◌, ◌≤◌}
use native.Mathlib.Numerals.{add-one}
use native.Mathlib.Omega.{arith}
use lib.ListN.{length, get_or, take}
use lib.Seq.{get_or-take}
use borrow.Author.Tests.{eq-eqb}
use Rattle.machine.specs.Machine.{Table}
use Rattle.machine.specs.Form.{meet, visit, order}
use Rattle.form_laws.specs.Listed.{Selfsame, kids}
use Rattle.form_laws.proofs.Visit.{Visited, visited_start, visited_step, visited_length}
use Rattle.form_laws.proofs.Order.{visit_next, visit_done, order_enough}
use Rattle.layout.specs.Layout.{Opened}
use Rattle.visit_queue.specs.Queue.{by_rep, QueueHolds, NoneMet, StatesMet}
use Rattle.visit_queue.specs.declared.queue.Queue.{Queue}
use Rattle.visit_queue.proofs.Marks.{mark_fresh, meet_one_new}

-- By classes each state is the same as itself.
pub class_self : (rep : List ℕ) (M : Table) → Selfsame (by_rep rep) M
class_self rep M q l = eq-eqb (get_or rep q 0) (get_or rep q 0) refl

-- What holds once the states below number i have been taken: the queue holds a list, and the visit from there on gives the order.
pub record Under (rep : List ℕ) (M : Table) (a : Queue) (i : ℕ) : Type 0 where
  pub seen : List ℕ
  pub queued : QueueHolds rep seen a
  pub visited : Visited (by_rep rep) M i seen
  pub rest : (k : ℕ) → M.states ≤ i + k → order (by_rep rep) M ≡ visit (by_rep rep) M.rows k i seen

-- A fresh queue holds no state.
fresh_holds : (rep : List ℕ) {a : Queue} → NoneMet a → QueueHolds rep [] a
fresh_holds rep {a} f =
    record {
      count = f.none;
      listed = ap (λ (k : ℕ). take k a.order) f.none;
      marks = λ q. f.unmarked (get_or rep q 0) ∙ sym (mark_fresh (by_rep rep) [] q (omega arith));
    }

module _ (rep : List ℕ) {F I : List ℕ} {M : Table} (o : Opened F I M) where
  -- The initial state is listed first.
  pub under_start : {a b : Queue} (q : ℕ) → q ≡ M.start → NoneMet a → StatesMet rep (q ∷ []) a b → Under rep M b 0
  under_start {a} {b} q e z f =
      let d : meet (by_rep rep) [] (q ∷ []) ≡ q ∷ [] = meet_one_new (by_rep rep) [] q (omega arith) in
      record {
        seen = M.start ∷ [];
        queued = subst (λ (s : List ℕ). QueueHolds rep s b) (d ∙ ap (λ (s : ℕ). s ∷ []) e) (f.queued [] (fresh_holds rep z) (omega (arith, ap length d)));
        visited = visited_start (by_rep rep) M o.limited.made (class_self rep M);
        rest = λ k h. order_enough (by_rep rep) M o.limited.made (class_self rep M) k (omega arith);
      }

  -- The next state is taken.
  pub under_next : {a b : Queue} {i : ℕ} (q : ℕ) → Under rep M a i → i < a.count → q ≡ get_or a.order i 0 → StatesMet rep (kids M q) a b
      → Under rep M b (i + 1)
  under_next {a} {b} {i} q u h e f =
      let same = by_rep rep in
      let W = o.limited.made in
      let S = class_self rep M in
      let l : i < length u.seen = omega (arith, u.queued.count) in
      let here : q ≡ get_or u.seen i zero = e ∙ sym (get_or-take a.count a.order i 0 h) ∙ ap (λ (s : List ℕ). get_or s i zero) u.queued.listed in
      let next : List ℕ = meet same u.seen (kids M (get_or u.seen i zero)) in
      let v : Visited same M (suc i) next = visited_step same M W S i u.seen l u.visited in
      let met : StatesMet rep (kids M (get_or u.seen i zero)) a b = subst (λ (s : ℕ). StatesMet rep (kids M s) a b) here f in
      subst (λ (k : ℕ). Under rep M b k) (sym (add-one i))
      (record {
        seen = next;
        queued = met.queued u.seen u.queued (omega (arith, visited_length same M W S (suc i) next v, o.limited.states));
        visited = v;
        rest = λ k b. u.rest (suc k) (omega arith) ∙ visit_next same M.rows k i u.seen l;
      })

  -- All listed states have been taken.
  pub under_done : {a : Queue} {i : ℕ} → Under rep M a i → a.count ≤ i → QueueHolds rep (order (by_rep rep) M) a
  under_done {a} {i} u h =
      subst (λ (s : List ℕ). QueueHolds rep s a)
      (sym (u.rest M.states (omega arith) ∙ visit_done (by_rep rep) M.rows M.states i u.seen (omega (arith, u.queued.count)))) u.queued
