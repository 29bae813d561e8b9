-- The checks tell of the conditions of the table, so what they judge is the table's verdict.
use mathlib.Core.Path.{◌≡◌, refl, subst}
use mathlib.Core.Bool.{true, false}
use mathlib.Core.List.{List}
use mathlib.Core.Option.{some}
use Prim.Native.Nat.{ℕ, ◌<◌}
use borrow.Author.Tests.{not-true, not-false, eqb-true, eqb-false}
use lib.Dec.{eqb}
use lib.ListN.{length, get_or, get_elem?}
use Rattle.words.specs.Word.{NoPrefix, NoSuffix}
use Rattle.machine.specs.Machine.{Row, Table, RowFits, WellMade}
use Rattle.machine.specs.Earliest.{L, Reached, HasWord, LeftStart, LeftRule}
use Rattle.machine.specs.Verdict.{conditions, Judged}
use Rattle.machine.proofs.Find.{every_at, index_row}
use Rattle.end_laws.specs.Ends.{left, right, stuck}
use Rattle.end_laws.specs.Meaning.{Witnessed, Covering}
use Rattle.end_laws.specs.Companion.{free_row, judge_by}
use Rattle.end_laws.proofs.Told.{lives_word, dead_word, clean_state, unclean_state}
use Rattle.end_laws.proofs.Local.{all_apart, free_left, unfree_left, free_start, stuck_start}
use Rattle.end_laws.proofs.Companion.{CheckTells, judged_by_lem}
use Rattle.summary.specs.Codes.{K}
use Rattle.summary.specs.declared.Summary.{Summary}
use Rattle.checks.specs.Checks.{check_at, all_checks}

-- Every state is reached.
abbrev pub AllReached : Table → Type 0
AllReached M = (q : ℕ) → q < M.states → Reached M q

-- What is known of a table in the end: which states are reached, and the summaries at both sides, which cover all words if every state is.
pub record SummariesKnown (M : Table) (m : List ℕ) (xs ys : List Summary) : Type 0 where
  pub made : WellMade M
  pub marked : (q : ℕ) → (get_or m q 0 ≡ 0 → ⊥) → Reached M q
  pub reached : (q : ℕ) → Reached M q → get_or m q 0 ≡ 0 → ⊥
  pub shown : Witnessed M left (K xs)
  pub fits : AllReached M → Covering M left (K xs)
  pub shown_right : Witnessed M right (K ys)
  pub fits_right : AllReached M → Covering M right (K ys)

module _ (M : Table) (m : List ℕ) (xs ys : List Summary) (k : SummariesKnown M m xs ys) where
  -- 13
  tells_reached : CheckTells (check_at 13 M m xs ys) (record { number = 13; places = M.states; holds = Reached M })
  tells_reached = record {
    number = refl;
    places = refl;
    passed = λ q l e. k.marked q (eqb-false (get_or m q 0) 0 (not-true (eqb (get_or m q 0) 0) e));
    failed = λ q l e h. k.reached q h (eqb-true (get_or m q 0) 0 (not-false (eqb (get_or m q 0) 0) e));
  }

  -- The others, where 13 is met
  module _ (all : AllReached M) where
    -- 14
    tells_word : CheckTells (check_at 14 M m xs ys) (record { number = 14; places = M.states; holds = HasWord M })
    tells_word = record {
      number = refl;
      places = refl;
      passed = λ q l e. lives_word M left (K xs) k.shown q e;
      failed = λ q l e. dead_word M left
          (K xs) (k.fits all) q e;
    }

    -- 15
    tells_prefix : CheckTells (check_at 15 M m xs ys) (record { number = 15; places = M.states; holds = λ q. NoPrefix (L M q) })
    tells_prefix = record {
      number = refl;
      places = refl;
      passed = λ q l e. clean_state M left (K xs)
          k.shown q e;
      failed = λ q l e. unclean_state M left (K xs) (k.fits all) q e;
    }

    -- 16
    tells_suffix : CheckTells (check_at 16 M m xs ys) (record { number = 16; places = M.states; holds = λ q. NoSuffix (L M q) })
    tells_suffix = record {
      number = refl;
      places = refl;
      passed = λ q l e. clean_state M right (K ys)
          k.shown_right q e;
      failed = λ q l e. unclean_state M right (K ys) (k.fits_right all) q e;
    }

    module _ (n : (q : ℕ) → q < M.states → NoPrefix (L M q)) where
      -- 17, where no state has a common prefix
      tells_start : CheckTells (check_at 17 M m xs ys) (record { number = 17; places = 1; holds = λ p. LeftStart M })
      tells_start =
          record {
            number = refl;
            places = refl;
            passed = λ p l e. free_start M (K xs) k.shown (k.fits all) (n M.start k.made.start) (not-true (stuck (K xs M.start) M.after) e);
            failed = λ p l e. stuck_start M (K xs) k.shown (k.fits all) (not-false (stuck (K xs M.start) M.after) e);
          }

      -- 18, where no state has a common prefix
      tells_rules : CheckTells (check_at 18 M m xs ys)
          (record { number = 18; places = length M.rows; holds = λ i. (r : Row) → get_elem? M.rows i ≡ some r → LeftRule M r.rule })
      tells_rules =
          record {
            number = refl;
            places = refl;
            passed = λ i l e r j. free_left M (K xs) k.shown (k.fits all) r.rule
                (all_apart M n r.rule.rest (every_at (RowFits M) M.rows k.made.rows i r j).children) (subst (λ o. free_row (K xs) o ≡ true) j e);
            failed = λ i l e h. let a = index_row M.rows i l in unfree_left M (K xs) k.shown (k.fits all) a.0.rule
                (subst (λ o. free_row (K xs) o ≡ false) a.1 e) (h a.0 a.1);
          }

  -- What the checks judge is the verdict of the table.
  pub checks_judged : Judged M (judge_by (all_checks M m xs ys))
  checks_judged =
      judged_by_lem (all_checks M m xs ys) (conditions M)
      (tells_reached, λ all. (tells_word all, λ _. (tells_prefix all, λ n. (tells_suffix all, λ _. (tells_start all n, λ _. (tells_rules all n, λ _. tt))))))
