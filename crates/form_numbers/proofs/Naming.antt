-- The numbers that the marks of the classes tell, and how many there are.
use mathlib.Core.Path.{◌≡◌, refl, ap, ◌∙◌}
use mathlib.Core.List.{List}
use Prim.Native.Nat.{ℕ, zero, suc, ◌-◌, ◌<◌, ◌≤◌}
use native.Mathlib.Omega.{arith}
use lib.ListN.{length, get_or, take, replicate, length-take}
use Rattle.machine.specs.Machine.{Table}
use Rattle.machine.specs.Form.{Test, Decides, order}
use Rattle.form_laws.proofs.Visit.{same_self}
use Rattle.form_laws.proofs.Order.{order_length}
use Rattle.text.specs.Limits.{states_most}
use Rattle.text.specs.Writing.{Limited}
use Rattle.visit_queue.specs.Queue.{by_rep, Listing}
use Rattle.visit_queue.proofs.Marks.{mark_known}
use Rattle.form_numbers.specs.Numbers.{NumberedByVisit}

-- A known state's number is one less than the mark of its class.
pub numbered_by_marks : {rep O P K N : List ℕ} {n : ℕ} (M : Table) → Listing rep (order (by_rep rep) M) O K n → take n P ≡ take n O
    → ((q : ℕ) → q < states_most → get_or N q 0 ≡ get_or K (get_or rep q 0) 0 - 1) → NumberedByVisit (by_rep rep) M P N n
numbered_by_marks {rep} {O} {P} {K} {N} {n} M l e h =
    record {
      count = l.count;
      listed = e ∙ l.listed;
      numbers = λ q b k. omega (arith, h q b, l.marks q, mark_known (by_rep rep) (order (by_rep rep) M) q k);
    }

-- A list of zeros has no other entry.
pub zeros : (n i : ℕ) → get_or {A = ℕ} (replicate n 0) i 0 ≡ 0
zeros zero i = refl
zeros (suc n) zero = refl
zeros (suc n) (suc i) = zeros n i

module _ {same : Test} {M : Table} {O N : List ℕ} {n : ℕ} (h : NumberedByVisit same M O N n) where
  -- The order has its place.
  pub order_there : n ≤ length O
  order_there = omega (arith, h.count, simp length-take at (ap length h.listed))

  -- There are at most as many numbers as states.
  pub count_within : Limited M → Decides same M → n ≤ states_most
  count_within L D = omega (arith, h.count, order_length same M L.made (same_self same M D), L.states)
