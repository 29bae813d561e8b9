-- Meeting the child states of a rule, child by child, and of a state, rule by rule: what remains to be met, and what is met first of it.
use mathlib.Core.Path.{◌≡◌, refl, sym, ap, ap₂, subst, ◌∙◌}
use mathlib.Core.List.{List, [], ◌∷◌, ◌++◌}
use mathlib.Core.Option.{some}
use Prim.Native.Nat.{ℕ, zero, suc, ◌+◌, ◌<◌, ◌≤◌}
use native.Mathlib.Numerals.{add-one}
use native.Mathlib.Omega.{arith}
use lib.ListN.{length, get_or, get_elem?, take, drop, length-map, length-take, drop_of_length-le}
use lib.Seq.{slice, slice-cons, drop-cons}
use Rattle.machine.specs.Machine.{Child, Row, Table}
use Rattle.machine.specs.Form.{child_states, meet}
use Rattle.machine.proofs.Find.{index_row}
use Rattle.form_laws.specs.Listed.{kids}
use Rattle.layout.specs.Leaves.{RowAt, RulesOf, state_no}
use Rattle.visit_queue.specs.Queue.{by_rep, QueueHolds, StatesMet, states_of}
use Rattle.visit_queue.specs.declared.queue.Queue.{Queue}
use Rattle.visit_queue.proofs.Marks.{meet_append, meet_longer}

-- No state was met.
met_none : {rep qs : List ℕ} {a : Queue} → qs ≡ [] → StatesMet rep qs a a
unfolding meet
met_none {rep} {qs} {a} e = subst (λ (s : List ℕ). StatesMet rep s a a) (sym e) (record { queued = λ seen l h. l })

-- States were met, and then others: qs in all.
met_then : {rep xs ys qs : List ℕ} {a b c : Queue} → xs ++ ys ≡ qs → StatesMet rep xs a b → StatesMet rep ys b c → StatesMet rep qs a c
met_then {rep} {xs} {ys} {qs} {a} {b} {c} e f g =
    record {
      queued = λ seen l h.
          let first : List ℕ = meet (by_rep rep) seen xs in
          let d : meet (by_rep rep) seen qs ≡ meet (by_rep rep) first ys =
          ap (λ (s : List ℕ). meet (by_rep rep) seen s) (sym e) ∙ meet_append (by_rep rep) seen xs ys in
          subst (λ (s : List ℕ). QueueHolds rep s c) (sym d)
          (g.queued first (f.queued seen l (omega (arith, ap length d, meet_longer (by_rep rep) first ys))) (omega (arith, ap length d)));
    }

-- The state of child j is member j of the children's states.
state_at : (cs : List Child) (j : ℕ) → get_or (states_of cs) j 0 ≡ state_no cs j
unfolding state_no
state_at [] j = refl
state_at (c ∷ cs) zero = refl
state_at (c ∷ cs) (suc j) = state_at cs j

module _ (cs : List Child) (j : ℕ) {kids : ℕ} (e : kids ≡ length cs) where
  -- There are as many states as children.
  long : length (states_of cs) ≡ kids
  long = length-map cs (λ c. c.state) ∙ sym e

  -- Of the children from the next on, that one's state was met, and then the others'.
  pub children_next : {rep : List ℕ} {a b c : Queue} {q : ℕ} → j < kids → (j < length cs → q ≡ state_no cs j) → StatesMet rep (q ∷ []) a b
      → StatesMet rep (drop (j + 1) (states_of cs)) b c → StatesMet rep (drop j (states_of cs)) a c
  children_next h d =
      met_then
      (ap₂ (λ (s t : ℕ). s ∷ drop t (states_of cs)) (d (omega arith) ∙ sym (state_at cs j)) (add-one j)
      ∙ sym (drop-cons (states_of cs) j 0 (omega (arith, long))))

  -- Behind the last there is none.
  pub children_end : {rep : List ℕ} {a : Queue} → kids ≤ j → StatesMet rep (drop j (states_of cs)) a a
  children_end h = met_none (drop_of_length-le (states_of cs) {i = j} (omega (arith, long)))

-- The row at an index.
row_there : (rows : List Row) (i : ℕ) (d : Row) → i < length rows → get_elem? rows i ≡ some (get_or rows i d)
row_there [] i d h = absurd (omega arith)
row_there (x ∷ rows) zero d h = refl
row_there (x ∷ rows) (suc i) d h = row_there rows i d (omega arith)

module _ {M : Table} {q from to : ℕ} (h : RulesOf M q from to) where
  -- The child states of a state are those of its rules.
  pub rules_all : {rep : List ℕ} {a b : Queue} → StatesMet rep (child_states (slice from to M.rows)) a b → StatesMet rep (kids M q) a b
  rules_all {rep} {a} {b} = subst (λ (l : List Row). StatesMet rep (child_states l) a b) (sym h.rows)

  -- Of the rules from the next on, the states of that one's children were met, and then the others'.
  pub rules_next : {rep : List ℕ} {a b c : Queue} (i : ℕ) → i < to → ((r : Row) → RowAt M i r → StatesMet rep (states_of r.rule.rest) a b)
      → StatesMet rep (child_states (slice (i + 1) to M.rows)) b c → StatesMet rep (child_states (slice i to M.rows)) a c
  unfolding child_states
  rules_next i b f =
      let l : i < length M.rows = omega (arith, h.few) in
      let d : Row = (index_row M.rows i l).0 in
      met_then
      (ap (λ (k : ℕ). child_states (get_or M.rows i d ∷ slice k to M.rows)) (add-one i) ∙ ap child_states (sym (slice-cons i to M.rows d b h.few)))
      (f (get_or M.rows i d) (row_there M.rows i d l))

-- Behind the last there is none.
pub rules_end : (M : Table) {rep : List ℕ} {a : Queue} (i to : ℕ) → to ≤ i → StatesMet rep (child_states (slice i to M.rows)) a a
unfolding child_states
rules_end M i to b = met_none (ap child_states (drop_of_length-le (take to M.rows) {i = i} (omega (arith, length-take to M.rows))))
