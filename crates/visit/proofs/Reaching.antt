-- With each state as a class of its own, the visited states are those that are reached.
use mathlib.Core.Path.{◌≡◌, sym, ap, subst, ◌∙◌}
use mathlib.Core.Bool.{true, false}
use mathlib.Core.List.{List}
use Prim.Native.Nat.{ℕ, zero, ◌<◌}
use native.Mathlib.Decide.{dec_lt}
use native.Mathlib.Omega.{arith}
use lib.ListN.{length, get_or, take, get_or-eq_default}
use lib.Seq.{get_or-take}
use borrow.Author.Tests.{eqb-true, eqb-false}
use Rattle.machine.specs.Machine.{Table}
use Rattle.machine.specs.Earliest.{Reached}
use Rattle.machine.specs.Form.{order}
use Rattle.text.specs.Limits.{states_most}
use Rattle.form_laws.specs.Listed.{listed, number_of}
use Rattle.form_laws.proofs.Lists.{ordered_at}
use Rattle.form_laws.proofs.Number.{Known, number_same}
use Rattle.form_laws.proofs.Order.{order_listed, listed_inside}
use Rattle.form_laws.proofs.Reach.{listed_reached, reached_known}
use Rattle.layout.specs.Layout.{Opened}
use Rattle.visit_queue.specs.Queue.{by_rep, mark, Listing}
use Rattle.visit.specs.Reaches.{Own, Marked, Reaches}
use Rattle.visit_queue.proofs.Marks.{mark_known, marked_known}
use Rattle.visit.proofs.Visits.{class_self}

-- Where all states are, every class is below their number.
pub own_low : (rep : List ℕ) → length rep ≡ states_most → Own rep states_most → (q : ℕ) → get_or rep q 0 < states_most
own_low rep e own q = elim (dec_lt q states_most) [ yes b ↦ omega (arith, own q b) | no b ↦ omega (arith, get_or-eq_default rep 0 {n = q} (omega arith)) ]

-- Marks behind those of all classes tell nothing.
pub listing_low : {rep seen O K : List ℕ} {n : ℕ} → ((q : ℕ) → get_or rep q 0 < states_most) → Listing rep seen O K n
    → Listing rep seen O (take states_most K) n
listing_low {rep} {seen} {O} {K} {n} low l =
    record { count = l.count; listed = l.listed; marks = λ q. get_or-take states_most K (get_or rep q 0) 0 (low q) ∙ l.marks q }

module _ {F I : List ℕ} {M : Table} (o : Opened F I M) (rep : List ℕ) (own : Own rep states_most) where
  -- States of one class are one.
  one : (p q : ℕ) → p < states_most → q < states_most → by_rep rep p q ≡ true → p ≡ q
  one p q a b e = sym (own p a) ∙ eqb-true (get_or rep p 0) (get_or rep q 0) e ∙ own q b

  -- The visit knows the state.
  abbrev Here : ℕ → Type 0
  Here q = (q < states_most) × Known (by_rep rep) (order (by_rep rep) M) q

  -- So it is listed at its number.
  listed_at : (q : ℕ) → Here q → listed (by_rep rep) M (number_of (by_rep rep) M q) ≡ q
  listed_at q h =
      let inside = listed_inside (by_rep rep) M o.limited.made (class_self rep M) (number_of (by_rep rep) M q) h.1 in
      one (listed (by_rep rep) M (number_of (by_rep rep) M q)) q (omega (arith, inside, o.limited.states)) h.0
      (number_same (by_rep rep) (order (by_rep rep) M) q h.1)

  -- The visit knows all that are reached.
  reached_here : (q : ℕ) → Reached M q → Here q
  reached_here q r =
      let s = o.limited.states in
      let k = reached_known (by_rep rep) M o.limited.made (class_self rep M) (λ p q a b. one p q (omega (arith, s)) (omega (arith, s))) q r in
      (omega (arith, k.0, s), k.1)

  module _ {m O : List ℕ} {n : ℕ} (long : length m ≡ states_most) (l : Listing rep (order (by_rep rep) M) O m n) where
    -- The mark of a state is that of its class.
    own_mark : (q : ℕ) → q < states_most → get_or m q 0 ≡ mark (by_rep rep) (order (by_rep rep) M) q
    own_mark q b = ap (λ (k : ℕ). get_or m k 0) (sym (own q b)) ∙ l.marks q

    -- The visit knows the marked states.
    marked_here : (q : ℕ) → Marked m q → Here q
    marked_here q h =
        elim (dec_lt q states_most) [
          | yes b ↦ (b, marked_known (by_rep rep) (order (by_rep rep) M) q (λ z. h (own_mark q b ∙ z)))
          | no b ↦ absurd (h (get_or-eq_default m 0 (omega arith)))
        ]

    -- The entries are the listed states.
    entry : (i : ℕ) → i < n → get_or O i 0 ≡ listed (by_rep rep) M i
    entry i b = sym (get_or-take n O i 0 b) ∙ ap (λ (s : List ℕ). get_or s i 0) l.listed

    -- A state that the visit knows has one.
    here_listed : (q : ℕ) → Here q → (i : ℕ) × (i < n) × (get_or O i 0 ≡ q)
    here_listed q h =
        let b : number_of (by_rep rep) M q < n = omega (arith, h.1, l.count) in
        (number_of (by_rep rep) M q, b, entry (number_of (by_rep rep) M q) b ∙ listed_at q h)

    -- It is reached.
    entry_reached : (i : ℕ) → i < n → Reached M (get_or O i 0)
    entry_reached i b =
        subst (Reached M) (sym (entry i b)) (listed_reached (by_rep rep) M o.limited.made (class_self rep M) i (omega (arith, b, l.count)))

    -- No two are of one class.
    entries_apart : (i j : ℕ) → i < j → j < n → get_or O i 0 ≡ get_or O j 0 → ⊥
    entries_apart i j a b e =
        let v = order_listed (by_rep rep) M o.limited.made (class_self rep M) in
        let d : listed (by_rep rep) M i ≡ listed (by_rep rep) M j = sym (entry i (omega arith)) ∙ e ∙ entry j b in
        let f = ordered_at (λ q r. by_rep rep q r ≡ false) (order (by_rep rep) M) v.apart i j zero a (omega (arith, b, l.count)) in
        eqb-false (get_or rep (listed (by_rep rep) M i) 0) (get_or rep (listed (by_rep rep) M j) 0) f (ap (λ (q : ℕ). get_or rep q 0) d)

    -- The marks and the list are those of the states that are reached.
    pub reaches : Reaches M m O n
    reaches =
        record {
          marked = λ q h. let i = here_listed q (marked_here q h) in subst (Reached M) i.2 (entry_reached i.0 i.1);
          reached = λ q r z.
              let h = reached_here q r in
              omega (arith, z, own_mark q h.0, mark_known (by_rep rep) (order (by_rep rep) M) q h.1);
          listed = λ q h. here_listed q (marked_here q h);
          entries = entry_reached;
          once = entries_apart;
        }
