-- The judgement that computes gives the verdict of the table.
use mathlib.Core.Path.{◌≡◌, refl, sym, ap, ◌∙◌, subst}
use mathlib.Core.Bool.{Bool, true, false, not, true≢false}
use mathlib.Core.List.{List, [], ◌∷◌}
use mathlib.Core.Logic.{inl, inr}
use mathlib.Core.Option.{Option, none, some}
use Prim.Native.Nat.{ℕ, zero, suc, ◌+◌, ◌≤◌, ◌<◌}
use native.Mathlib.Decide.{ℕ_discrete}
use native.Mathlib.Omega.{arith}
use borrow.Author.Tests.{not-true, not-false}
use lib.ListN.{length, get_elem?}
use Rattle.words.specs.Word.{NoPrefix, NoSuffix}
use Rattle.machine.specs.Machine.{Row, Table, RowFits, WellMade}
use Rattle.machine.specs.Earliest.{L, Reached, HasWord, LeftStart, LeftRule}
use Rattle.machine.specs.Verdict.{Condition, Verdict, late, Met, JudgedBy, Judged, conditions}
use Rattle.machine.proofs.Find.{every_at, index_row}
use Rattle.end_laws.specs.Ends.{left, right, Ends, lives, clean, stuck, at}
use Rattle.end_laws.specs.Companion.{on, reached, known, Check, least, judge_by, free_row, checks, judge}
use Rattle.end_laws.specs.Meaning.{Witnessed, Covering}
use Rattle.end_laws.proofs.Told.{lives_word, dead_word, clean_state, unclean_state}
use Rattle.end_laws.proofs.Local.{all_apart, free_left, unfree_left, free_start, stuck_start}
use Rattle.end_laws.proofs.Known.{known_witnessed, known_covering}
use Rattle.end_laws.proofs.Reach.{marked_reached, reached_marked}

-- ---- the least place that does not pass
-- What `least` says: all of the n places from i on pass, or p is the least that does not.
abbrev LeastSaid : (ℕ → Bool) → ℕ → ℕ → Option ℕ → Type 0
LeastSaid test n i none = (p : ℕ) → i ≤ p → p < i + n → test p ≡ true
LeastSaid test n i (some p) = (p < i + n) × (test p ≡ false) × ((r : ℕ) → i ≤ r → r < p → test r ≡ true)

-- What `least` finds is the least.
least_least : (test : ℕ → Bool) (n i : ℕ) → LeastSaid test n i (least test n i)
unfolding least
least_least test zero i = λ p l h. absurd (omega arith)
least_least test (suc n) i = go (test i) refl (least test n (suc i)) (least_least test n (suc i))
  where
    -- What holds from i on, by what holds at i and from the next place on.
    more : (P : ℕ → Type 0) → P i → (p : ℕ) → (suc i ≤ p → P p) → i ≤ p → P p
    more P h p k l = elim (ℕ_discrete i p) [ yes e ↦ subst P e h | no ne ↦ k (omega arith) ]

    go : (t : Bool) → test i ≡ t → (o : Option ℕ) → LeastSaid test n (suc i) o
        → LeastSaid test (suc n) i (elim t as (λ x. Option ℕ) [ true ↦ o | false ↦ some i ])
    go true e none h = λ p l k. more (λ x. test x ≡ true) e p (λ m. h p m (omega arith)) l
    go true e (some p) h = (omega (arith, h.0), h.1, λ r l k. more (λ x. test x ≡ true) e r (λ m. h.2 r m k) l)
    go false e o h = (omega arith, e, λ r l k. absurd (omega arith))

-- ---- conditions by checks
-- A test tells whether a condition holds, at each of its places.
pub record CheckTells (k : Check) (c : Condition) : Type 0 where
  pub number : k.number ≡ c.number
  pub places : k.places ≡ c.places
  pub passed : (p : ℕ) → p < c.places → k.passes p ≡ true → c.holds p
  pub failed : (p : ℕ) → p < c.places → k.passes p ≡ false → c.holds p → ⊥

-- The verdict by conditions, if the first check tells of the first condition and the others of the others where the first is met.
judged_step : (k : Check) (ks : List Check) (c : Condition) (cs : List Condition)
    → CheckTells k c → (Met c → JudgedBy cs (judge_by ks)) → JudgedBy (c ∷ cs) (judge_by (k ∷ ks))
unfolding judge_by
judged_step k ks c cs t f = go (least k.passes k.places 0) (least_least k.passes k.places 0)
  where
    go : (o : Option ℕ) → LeastSaid k.passes k.places 0 o
        → JudgedBy (c ∷ cs) (elim o as (λ x. Verdict) [ none ↦ judge_by ks | some p ↦ late k.number p ])
    go none h = let m : Met c = λ p l. t.passed p l (h p (omega arith) (omega (arith, t.places))) in inr (m, f m)
    go (some p) h =
        let l : p < c.places = omega (arith, t.places, h.0) in
        inl (
          p,
          record { place = l; fails = t.failed p l h.1; least = λ r m. t.passed r (omega arith) (h.2 r (omega arith) m) },
          ap (λ n. late n p) t.number,
        )

-- Each check tells of its condition, where those before it are met.
abbrev pub ChecksTell : List Check → List Condition → Type 0
ChecksTell [] [] = Unit {0}
ChecksTell [] (c ∷ cs) = ⊥
ChecksTell (k ∷ ks) [] = ⊥
ChecksTell (k ∷ ks) (c ∷ cs) = CheckTells k c × (Met c → ChecksTell ks cs)

-- The verdict by conditions of which checks tell.
pub judged_by_lem : (ks : List Check) (cs : List Condition) → ChecksTell ks cs → JudgedBy cs (judge_by ks)
unfolding judge_by
judged_by_lem [] [] t = refl
judged_by_lem [] (c ∷ cs) t = absurd t
judged_by_lem (k ∷ ks) [] t = absurd t
judged_by_lem (k ∷ ks) (c ∷ cs) t = judged_step k ks c cs t.0 (λ m. judged_by_lem ks cs (t.1 m))

-- A check and a condition with one number and the same places: the check tells of the condition.
abbrev CheckedBy : ℕ → ℕ → (ℕ → Bool) → (ℕ → Type 0) → Type 0
CheckedBy n m passes holds = CheckTells (record { number = n; places = m; passes = passes }) (record { number = n; places = m; holds = holds })

-- It does if the condition holds where the check passes, and fails where it does not.
checked_by : {n m : ℕ} {passes : ℕ → Bool} {holds : ℕ → Type 0}
    → ((p : ℕ) → p < m → passes p ≡ true → holds p) → ((p : ℕ) → p < m → passes p ≡ false → holds p → ⊥)
    → CheckedBy n m passes holds
checked_by f g = record { number = refl; places = refl; passed = f; failed = g }

-- ---- the conditions of a table
module _ (M : Table) (W : WellMade M) where
  -- What is known at the left and at the right, in the end.
  abbrev K : ℕ → Ends
  K = at (known M left)

  abbrev K' : ℕ → Ends
  K' = at (known M right)

  -- What is known at the left is shown by words.
  shown : Witnessed M left K
  shown = known_witnessed M W left

  -- Every word fits it.
  fits : Covering M left K
  fits = known_covering M W left

  -- 13
  tells_reached : CheckedBy 13 M.states (on (reached M)) (Reached M)
  tells_reached = checked_by (λ q l e. marked_reached M W q e) (λ q l e h. true≢false (sym (reached_marked M W q h) ∙ e))

  -- 14
  tells_word : CheckedBy 14 M.states (λ q. lives (K q)) (HasWord M)
  tells_word = checked_by (λ q l e. lives_word M left K shown q e) (λ q l e. dead_word M left K fits q e)

  -- 15
  tells_prefix : CheckedBy 15 M.states (λ q. clean (K q)) (λ q. NoPrefix (L M q))
  tells_prefix = checked_by (λ q l e. clean_state M left K shown q e) (λ q l e. unclean_state M left K fits q e)

  -- 16
  tells_suffix : CheckedBy 16 M.states (λ q. clean (K' q)) (λ q. NoSuffix (L M q))
  tells_suffix =
      checked_by (λ q l e. clean_state M right K' (known_witnessed M W right) q e)
      (λ q l e. unclean_state M right K' (known_covering M W right) q e)

  module _ (n : (q : ℕ) → q < M.states → NoPrefix (L M q)) where
    -- 17, where no state has a common prefix
    tells_start : CheckedBy 17 1 (λ p. not (stuck (K M.start) M.after)) (λ p. LeftStart M)
    tells_start =
        checked_by (λ p l e. free_start M K shown fits (n M.start W.start) (not-true (stuck (K M.start) M.after) e))
        (λ p l e. stuck_start M K shown fits (not-false (stuck (K M.start) M.after) e))

    -- 18, where no state has a common prefix
    tells_rules : CheckedBy 18 (length M.rows) (λ i. free_row K (get_elem? M.rows i))
        (λ i. (r : Row) → get_elem? M.rows i ≡ some r → LeftRule M r.rule)
    tells_rules = checked_by passed failed
      where
        passed : (i : ℕ) → i < length M.rows → free_row K (get_elem? M.rows i) ≡ true
            → (r : Row) → get_elem? M.rows i ≡ some r → LeftRule M r.rule
        passed i l e r j =
            let apart = all_apart M n r.rule.rest (every_at (RowFits M) M.rows W.rows i r j).children in
            free_left M K shown fits r.rule apart (subst (λ o. free_row K o ≡ true) j e)

        failed : (i : ℕ) → i < length M.rows → free_row K (get_elem? M.rows i) ≡ false
            → ((r : Row) → get_elem? M.rows i ≡ some r → LeftRule M r.rule) → ⊥
        failed i l e h =
            let a = index_row M.rows i l in
            unfree_left M K shown fits a.0.rule (subst (λ o. free_row K o ≡ false) a.1 e) (h a.0 a.1)

  -- The judgement that computes gives the verdict of the table.
  pub judge_judged : Judged M (judge M)
  unfolding judge
  judge_judged =
      judged_by_lem (checks M (reached M) (known M left) (known M right)) (conditions M)
      (tells_reached, λ _. (tells_word, λ _. (tells_prefix, λ n. (tells_suffix, λ _. (tells_start n, λ _. (tells_rules n, λ _. tt))))))
