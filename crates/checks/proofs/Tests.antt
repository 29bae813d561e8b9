-- The checks in number order: what the tests on marks and summaries tell, and the search for the least place.
use mathlib.Core.Path.{◌≡◌, refl, sym, ap, ◌∙◌}
use mathlib.Core.Bool.{Bool, true, false, not}
use mathlib.Core.List.{List, [], ◌∷◌}
use mathlib.Core.Option.{Option, none, some}
use Prim.Native.Nat.{ℕ, zero, suc, ◌+◌, ◌-◌, ◌≤◌, ◌<◌}
use native.Mathlib.Decide.{ℕ_discrete}
use native.Mathlib.Numerals.{add-one}
use native.Mathlib.Omega.{arith}
use borrow.Author.Tests.{eq-eqb, ne_eqb}
use lib.Dec.{eqb}
use lib.ListN.{length, get_or}
use Rattle.words.specs.Word.{Word}
use Rattle.words.specs.declared.No.{No}
use Rattle.machine.specs.Machine.{Table}
use Rattle.machine.specs.Verdict.{Verdict, late}
use Rattle.std.specs.Prelude.{Result, Some, None, Ok, Err}
use Rattle.std.specs.Prelude as code
use Rattle.std.specs.Bool.{then_some}
use Rattle.end_laws.specs.Ends.{stuck}
use Rattle.end_laws.specs.Companion.{Check, least, judge_by}
use Rattle.summary.specs.Codes.{decode, untold, K}
use Rattle.summary.specs.declared.Summary.{Summary}
use Rattle.checks.specs.Checks.{place_of, IsLeast, checked, verdict_then, verdict_by}

-- ---- the search
-- The search, by the test of one place.
abbrev searched : (ℕ → Bool) → Bool → ℕ → ℕ → Option ℕ
searched test t k i = elim t [ true ↦ least test k (suc i) | false ↦ some i ]

module _ (test : ℕ → Bool) (n : ℕ) where
  -- One place from i on.
  least_one : (i : ℕ) → i < n → least test (n - i) i ≡ searched test (test i) (n - (i + 1)) i
  unfolding least
  least_one i l = ap (λ k. least test k i) more
    where
      more : n - i ≡ suc (n - (i + 1))
      more = omega arith

  -- What the search from i on finds, where b is the test of place i.
  module _ {o : Option ℕ} (i : ℕ) (found : least test (n - i) i ≡ o) where
    -- A place that passes is passed over.
    pub least_on : {b : Bool} → i < n → b ≡ test i → b ≡ true → least test (n - (i + 1)) (i + 1) ≡ o
    least_on l e t =
        ap (least test (n - (i + 1))) (add-one i) ∙ sym (least_one i l ∙ ap (λ t. searched test t (n - (i + 1)) i) (sym e ∙ t)) ∙ found

    -- A place that does not pass is found.
    pub least_here : {b : Bool} → i < n → b ≡ test i → b ≡ false → some i ≡ o
    least_here l e t = sym (least_one i l ∙ ap (λ t. searched test t (n - (i + 1)) i) (sym e ∙ t)) ∙ found

    -- No place is left.
    pub least_end : n ≤ i → none ≡ o
    unfolding least
    least_end l = sym (ap (λ k. least test k i) none_left) ∙ found
      where
        none_left : n - i ≡ 0
        none_left = omega arith

-- ---- the initial rule
-- Its last word is empty.
pub start_empty : (M : Table) (xs : List Summary) (w : Word) → length w ≡ 0 → w ≡ M.after → stuck (K xs M.start) M.after ≡ false
start_empty M xs [] z e = ap (stuck (K xs M.start)) (sym e)
start_empty M xs (a ∷ w) z e = absurd (omega arith)

-- Its test, by what is read: its last word w, which is not empty, its state q, and what is kept for that.
pub start_test : (M : Table) (xs : List Summary) (w : Word) (q : ℕ) (x : Summary) {b : Bool} → (length w ≡ 0 → ⊥) → w ≡ M.after → q ≡ M.start → x ≡ get_or xs q
    untold
    → ((v : Word) → b ≡ stuck (decode x) (get_or w 0 0 ∷ v)) → stuck (K xs M.start) M.after ≡ b
start_test M xs [] q x ne ew eq ex eb = absurd (ne refl)
start_test M xs (a ∷ w) q x ne ew eq ex eb =
    ap (λ n. stuck (K xs n) M.after) (sym eq) ∙ ap (λ n. stuck (decode n) M.after) (sym ex) ∙ ap (stuck (decode x)) (sym ew) ∙ sym (eb w)

-- The initial rule is found, if its last word can be pushed.
pub start_told : (b : Bool) → place_of (then_some b 0) ≡ least (λ p. not b) 1 0
unfolding least
start_told true = refl
start_told false = refl

-- It is not, if that cannot be pushed.
pub start_free : (b : Bool) → b ≡ false → none ≡ least (λ p. not b) 1 0
unfolding least
start_free b e = sym (ap (λ t. least (λ p. not t) 1 0) e)

-- ---- the least place
-- No place is found where all pass.
least_passed : (test : ℕ → Bool) (n i : ℕ) → ((q : ℕ) → i ≤ q → q < i + n → test q ≡ true) → none ≡ least test n i
unfolding least
least_passed test zero i h = refl
least_passed test (suc n) i h =
    least_passed test n (suc i) (λ q a b. h q (omega arith) (omega arith)) ∙ sym (ap (λ t. searched test t n i) (h i (omega arith) (omega arith)))

-- The first that does not pass is found.
least_failed : (test : ℕ → Bool) (n i p : ℕ) → i ≤ p → p < i + n → test p ≡ false → ((q : ℕ) → i ≤ q → q < p → test q ≡ true) → some p ≡ least test n i
unfolding least
least_failed test zero i p a b e h = absurd (omega arith)
least_failed test (suc n) i p a b e h = elim (ℕ_discrete i p) [
  | yes d ↦ sym (ap (λ t. searched test t n i) (ap test d ∙ e) ∙ ap some d)
  | no d ↦
      least_failed test n (suc i) p (omega arith) (omega arith) e (λ q k l. h q (omega arith) l)
      ∙ sym (ap (λ t. searched test t n i) (h i (omega arith) (omega arith)))
]

-- The least place that fails is the least that does not pass.
pub least_is : {fails : ℕ → Type 0} (test : ℕ → Bool) (n : ℕ) (o : code.Option ℕ) → ((q : ℕ) → fails q → test q ≡ false)
    → ((q : ℕ) → (fails q → ⊥) → test q ≡ true) → IsLeast fails n o → place_of o ≡ least test n 0
least_is test n None f g h = least_passed test n 0 (λ q a b. g q (h q (omega arith)))
least_is test n (Some p) f g h = least_failed test n 0 p (omega arith) (omega (arith, h.0)) (f p h.1) (λ q a b. g q (h.2 q b))

-- A state without a mark is not reached.
pub unmarked_least : {k : ℕ} (m : List ℕ) (n : ℕ) (o : code.Option ℕ) → n ≡ k → IsLeast (λ q. get_or m q 0 ≡ 0) n o → place_of o ≡ least
    (λ q. not (eqb (get_or m q 0) 0)) k 0
unmarked_least m n o d h =
    least_is (λ q. not (eqb (get_or m q 0) 0)) n o (λ q e. ap not (eq-eqb _ _ e)) (λ q e. ap not (ne_eqb _ _ e)) h
    ∙ ap (λ j. least (λ q. not (eqb (get_or m q 0) 0)) j 0) d

-- What is not false is true.
ne_false : (b : Bool) → (b ≡ false → ⊥) → b ≡ true
ne_false true h = refl
ne_false false h = absurd (h refl)

-- The least place with a test that answers false.
pub least_false : {k : ℕ} (test : ℕ → Bool) (n : ℕ) (o : code.Option ℕ) → n ≡ k → IsLeast (λ q. test q ≡ false) n o → place_of o ≡ least test k 0
least_false test n o d h = least_is test n o (λ q e. e) (λ q e. ne_false (test q) e) h ∙ ap (λ j. least test j 0) d

-- ---- the checks in number order
module _ (c : Check) (cs : List Check) {v : Verdict} {r : Result Unit No} (o : code.Option ℕ) (told : r ≡ checked c.number o)
    (found : place_of o ≡ least c.passes c.places 0) (rest : judge_by (c ∷ cs) ≡ v) where
  -- What is judged is told by what the first check answers, or by the others.
  pub judged_then : verdict_then r (judge_by cs) ≡ v
  unfolding judge_by
  judged_then = ap (λ s. verdict_then s (judge_by cs)) told ∙ by_place o ∙ ap judged found ∙ rest
    where
      judged : Option ℕ → Verdict
      judged p = elim p [ none ↦ judge_by cs | some p ↦ late c.number p ]

      by_place : (o : code.Option ℕ) → verdict_then (checked c.number o) (judge_by cs) ≡ judged (place_of o)
      by_place None = refl
      by_place (Some p) = refl

  -- The others judge, where the first check is passed.
  pub judged_next : {u : Unit {0}} → r ≡ Ok u → judge_by cs ≡ v
  judged_next e = sym (ap (λ s. verdict_then s (judge_by cs)) e) ∙ judged_then

  -- The first check judges, where it is not.
  pub judged_here : {x : No} {s : Result Unit No} → r ≡ Err x → s ≡ Err x → verdict_by s ≡ v
  judged_here e d = ap verdict_by d ∙ sym (ap (λ s. verdict_then s (judge_by cs)) e) ∙ judged_then

-- The last check judges by what it answers.
pub judged_last : (c : Check) {v : Verdict} {r : Result Unit No} (o : code.Option ℕ) → r ≡ checked c.number o → place_of o ≡ least c.passes c.places 0
    → judge_by (c ∷ []) ≡ v → verdict_by r ≡ v
unfolding judge_by
judged_last c o told found rest = judged_then c [] o told found rest
