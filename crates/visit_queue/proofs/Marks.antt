-- Meeting states: how the marks of classes tell whether a state is known, and how they change.
use mathlib.Core.Path.{◌≡◌, refl, sym, ap, subst, ◌∙◌}
use mathlib.Core.Bool.{true, false}
use mathlib.Core.List.{List, [], ◌∷◌, ◌++◌, Memᴰ}
use Prim.Native.Nat.{ℕ, zero, suc, ◌+◌, ◌<◌, ◌≤◌}
use native.Mathlib.Decide.{ℕ_discrete}
use native.Mathlib.Numerals.{add-one}
use native.Mathlib.Omega.{arith}
use lib.ListN.{length, get_or, set, take, replicate, length-append}
use lib.Seq.{get_or-set_same, get_or-set_other, take-suc-set}
use borrow.Author.Tests.{lt-ltb, le-ltb, eq-eqb, ne_eqb}
use Rattle.machine.specs.Form.{Test, number_in, meet}
use Rattle.form_laws.proofs.Lists.{mem_all}
use Rattle.form_laws.proofs.Number.{Known, by_test, number_here, number_there, number_append, known_append}
use Rattle.form_laws.proofs.Meet.{known_or, meet_old, meet_new, meet_grown, grown_length}
use Rattle.text.specs.Limits.{states_most}
use Rattle.visit_queue.specs.Queue.{by_rep, mark, Listing, QueueHolds, StatesMet}
use Rattle.visit_queue.specs.declared.queue.Queue.{Queue}

module _ (same : Test) where
  -- A state that has no number in a list, and is the same as one put behind it, has that one's number.
  number_last : (seen : List ℕ) (q p : ℕ) → length seen ≤ number_in same seen p → same q p ≡ true → number_in same (seen ++ q ∷ []) p ≡ length seen
  number_last [] q p h e = number_here same q [] p e
  number_last (r ∷ rs) q p h e =
      by_test (same r p) (λ d. absurd (omega (arith, number_here same r rs p d)))
      (λ d. number_there same r (rs ++ q ∷ []) p d ∙ ap suc (number_last rs q p (omega (arith, number_there same r rs p d)) e))

  -- If it is not the same as that one, it has still no number.
  number_past : (seen : List ℕ) (q p : ℕ) → length seen ≤ number_in same seen p → same q p ≡ false → number_in same (seen ++ q ∷ []) p ≡ suc (length seen)
  unfolding number_in
  number_past [] q p h e = number_there same q [] p e
  number_past (r ∷ rs) q p h e =
      by_test (same r p) (λ d. absurd (omega (arith, number_here same r rs p d)))
      (λ d. number_there same r (rs ++ q ∷ []) p d ∙ ap suc (number_past rs q p (omega (arith, number_there same r rs p d)) e))

  -- The mark of a known state.
  pub mark_known : (seen : List ℕ) (q : ℕ) → Known same seen q → mark same seen q ≡ suc (number_in same seen q)
  mark_known seen q h = rw (lt-ltb (number_in same seen q) (length seen) h, mark)

  -- The mark of a fresh state.
  pub mark_fresh : (seen : List ℕ) (q : ℕ) → length seen ≤ number_in same seen q → mark same seen q ≡ 0
  mark_fresh seen q h = rw (le-ltb (number_in same seen q) (length seen) h, mark)

  -- A state with a mark is known.
  pub marked_known : (seen : List ℕ) (q : ℕ) → (mark same seen q ≡ 0 → ⊥) → Known same seen q
  marked_known seen q h = known_or same seen q (λ l. l) (λ l. absurd (h (mark_fresh seen q l)))

  -- A state without one is fresh.
  unmarked_fresh : (seen : List ℕ) (q : ℕ) → mark same seen q ≡ 0 → length seen ≤ number_in same seen q
  unmarked_fresh seen q h = known_or same seen q (λ l. absurd (omega (arith, mark_known seen q l))) (λ l. l)

  -- The mark of a state that is not the same as one put behind the list.
  mark_past : (seen : List ℕ) (q p : ℕ) → same q p ≡ false → mark same seen p ≡ mark same (seen ++ q ∷ []) p
  mark_past seen q p e =
      known_or same seen p
      (λ l.
      mark_known seen p l ∙ ap suc (sym (number_append same seen (q ∷ []) p l)) ∙ sym (mark_known (seen ++ q ∷ []) p (known_append same seen (q ∷ []) p l)))
      (λ l. mark_fresh seen p l ∙ sym (mark_fresh (seen ++ q ∷ []) p (omega (arith, length-append seen (q ∷ []), number_past seen q p l e))))

  -- The mark of a fresh state that is the same as one put behind the list.
  mark_last : (seen : List ℕ) (q p : ℕ) → mark same seen p ≡ 0 → same q p ≡ true → suc (length seen) ≡ mark same (seen ++ q ∷ []) p
  mark_last seen q p h e =
      let d : number_in same (seen ++ q ∷ []) p ≡ length seen = number_last seen q p (unmarked_fresh seen p h) e in
      sym (mark_known (seen ++ q ∷ []) p (omega (arith, length-append seen (q ∷ []))) ∙ ap suc d)

  -- Meeting states, and then others.
  pub meet_append : (seen xs ys : List ℕ) → meet same seen (xs ++ ys) ≡ meet same (meet same seen xs) ys
  unfolding meet
  meet_append seen [] ys = refl
  meet_append seen (x ∷ xs) ys =
      known_or same seen x
      (λ l. meet_old same seen x (xs ++ ys) l ∙ meet_append seen xs ys ∙ ap (λ (s : List ℕ). meet same s ys) (sym (meet_old same seen x xs l)))
      (λ l.
      meet_new same seen x (xs ++ ys) l ∙ meet_append (seen ++ x ∷ []) xs ys ∙ ap (λ (s : List ℕ). meet same s ys) (sym (meet_new same seen x xs l)))

  -- A list that meets states is not shorter.
  pub meet_longer : (seen qs : List ℕ) → length seen ≤ length (meet same seen qs)
  meet_longer seen qs =
      let P : ℕ → Type 0 = λ r. Memᴰ r qs in
      grown_length P seen (meet same seen qs) (meet_grown same P seen qs (mem_all qs))

  -- A known state alone changes nothing.
  meet_one_old : (seen : List ℕ) (q : ℕ) → Known same seen q → meet same seen (q ∷ []) ≡ seen
  unfolding meet
  meet_one_old seen q h = meet_old same seen q [] h

  -- A fresh state alone goes to the end.
  pub meet_one_new : (seen : List ℕ) (q : ℕ) → length seen ≤ number_in same seen q → meet same seen (q ∷ []) ≡ seen ++ q ∷ []
  unfolding meet
  meet_one_new seen q h = meet_new same seen q [] h

-- A list of zeros has no other entry.
pub zeros : (n i : ℕ) → get_or {A = ℕ} (replicate n 0) i 0 ≡ 0
zeros zero i = refl
zeros (suc n) zero = refl
zeros (suc n) (suc i) = zeros n i

module _ (rep : List ℕ) (q : ℕ) (a : Queue) {c : ℕ} (e : c ≡ get_or rep q 0) where
  -- The mark of a state's class c is the state's.
  mark_at : (seen : List ℕ) → QueueHolds rep seen a → get_or a.known c 0 ≡ mark (by_rep rep) seen q
  mark_at seen l = ap (λ (k : ℕ). get_or a.known k 0) e ∙ l.marks q

  -- A state whose class has a mark is not added.
  pub met_old : (get_or a.known c 0 ≡ 0 → ⊥) → StatesMet rep (q ∷ []) a a
  met_old h =
      record {
        queued = λ seen l k.
            let d = meet_one_old (by_rep rep) seen q (marked_known (by_rep rep) seen q (λ z. h (mark_at seen l ∙ z))) in
            subst (λ (s : List ℕ). QueueHolds rep s a) (sym d) l;
      }

  module _ (z : get_or a.known c 0 ≡ 0) where
    -- A state whose class has none is.
    added : (seen : List ℕ) → QueueHolds rep seen a → meet (by_rep rep) seen (q ∷ []) ≡ seen ++ q ∷ []
    added seen l = meet_one_new (by_rep rep) seen q (unmarked_fresh (by_rep rep) seen q (sym (mark_at seen l) ∙ z))

    -- It would be one too many.
    pub met_full : states_most ≤ a.count → StatesMet rep (q ∷ []) a a
    met_full m = record { queued = λ seen l k. absurd (omega (arith, k, ap length (added seen l), length-append seen (q ∷ []), l.count)) }

    -- It is put behind the list, and its class is marked.
    listing_new : (seen : List ℕ) → a.count < length a.order → c < length a.known → QueueHolds rep seen a
        → Listing rep (seen ++ q ∷ []) (set a.order a.count q) (set a.known c (a.count + 1)) (a.count + 1)
    listing_new seen lo lk l =
        record {
          count = omega (arith, length-append seen (q ∷ []), l.count);
          listed =
              ap (λ (k : ℕ). take k (set a.order a.count q)) (add-one a.count) ∙ take-suc-set a.order a.count q lo
              ∙ ap (λ (s : List ℕ). s ++ q ∷ []) l.listed;
          marks = λ p.
              elim (ℕ_discrete (get_or rep p 0) c) [
                | yes d ↦
                    ap (λ (k : ℕ). get_or (set a.known c (a.count + 1)) k 0) d ∙ get_or-set_same a.known c (a.count + 1) 0 lk ∙ number_of
                    ∙ mark_last (by_rep rep) seen q p (sym (l.marks p) ∙ ap (λ (k : ℕ). get_or a.known k 0) d ∙ z)
                    (eq-eqb (get_or rep q 0) (get_or rep p 0) (sym e ∙ sym d))
                | no d ↦
                    get_or-set_other a.known c (get_or rep p 0) (a.count + 1) 0 d ∙ l.marks p
                    ∙ mark_past (by_rep rep) seen q p (ne_eqb (get_or rep q 0) (get_or rep p 0) (λ i. d (sym i ∙ sym e)))
              ];
        }
      where
        number_of : a.count + 1 ≡ suc (length seen)
        number_of = omega (arith, l.count)

    -- It is added.
    pub met_new : a.count < length a.order → c < length a.known → {b : Queue} → b.order ≡ set a.order a.count q → b.known ≡ set a.known c (a.count + 1)
        → b.count ≡ a.count + 1 → StatesMet rep (q ∷ []) a b
    met_new lo lk {b} eo ek en =
        record {
          queued = λ seen l k.
              subst (λ (s : List ℕ). QueueHolds rep s b) (sym (added seen l))
              (rw (eo, ek, en) (listing_new seen lo lk l));
        }
