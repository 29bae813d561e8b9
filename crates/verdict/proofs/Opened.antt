-- The verdict of an opened table, from what the code has in the end.
use mathlib.Core.Path.{◌≡◌, sym, subst}
use mathlib.Core.List.{List}
use Prim.Native.Nat.{ℕ}
use native.Mathlib.Decide.{dec_lt}
use native.Mathlib.Omega.{arith}
use lib.ListN.{get_or, replicate, length-replicate, get_or-replicate, get_or-eq_default}
use Rattle.machine.specs.Machine.{Table}
use Rattle.machine.specs.Verdict.{Verdict, Judged}
use Rattle.text.specs.Limits.{states_most}
use Rattle.end_laws.specs.Ends.{Side, left, right}
use Rattle.end_laws.specs.Meaning.{Witnessed}
use Rattle.end_laws.specs.Companion.{judge_by}
use Rattle.layout.specs.Layout.{Opened, Meant, MeantBy}
use Rattle.visit.specs.Reaches.{Reaches}
use Rattle.summary.specs.Codes.{untold, K}
use Rattle.summary.specs.declared.Summary.{Summary}
use Rattle.empty_words.specs.Blank.{Blanks, EmptyTold, AllListed}
use Rattle.empty_words.proofs.Empty.{blanks_witnessed}
use Rattle.end_summaries.specs.Steps.{Settles}
use Rattle.checks.specs.Checks.{all_checks}
use Rattle.verdict.proofs.Promise.{AllReached, SummariesKnown, checks_judged}

-- No word is known of any state in the beginning.
pub begun_untold : (q : ℕ) → get_or {A = Summary} (replicate states_most untold) q untold ≡ untold
begun_untold q = elim (dec_lt q states_most) [
  | yes l ↦ get_or-replicate {A = Summary} states_most q untold untold l
  | no l ↦ get_or-eq_default (replicate states_most untold) untold {n = q} (omega (arith, length-replicate {A = Summary} states_most untold))
]

-- What the code has in the end: the marks m, the first n states of O, the states zs with the empty word,
-- the summaries xs at the left and ys at the right, and the verdict v by the checks.
pub record Done (F I m O : List ℕ) (n : ℕ) (zs xs ys : List Summary) (v : Verdict) : Type 0 where
  pub reaches : MeantBy I (λ M. Reaches M m O n)
  pub blanks : MeantBy I (λ M. Blanks M zs)
  pub empties : MeantBy I (λ M. AllListed M O n → EmptyTold M (K zs))
  pub lefts : Settles F I O n left zs xs
  pub rights : Settles F I O n right zs ys
  pub verdict : Meant F I (λ M. v ≡ judge_by (all_checks M m xs ys))

module _ {F I m O : List ℕ} {n : ℕ} {zs xs ys : List Summary} {v : Verdict} (d : Done F I m O n zs xs ys v) (M : Table) (o : Opened F I M) where
  -- The states that are reached are marked and listed.
  met : Reaches M m O n
  met = d.reaches F M o

  -- If every state is reached, each is listed.
  all_listed : AllReached M → AllListed M O n
  all_listed all q l = met.listed q (met.reached q (all q l))

  -- What is told of the empty word is true at both sides.
  begun : (side : Side) → Witnessed M side (K zs)
  begun side = blanks_witnessed M side zs (d.blanks F M o)

  -- If every state is reached, it is told of every state that has it.
  all_told : AllReached M → EmptyTold M (K zs)
  all_told all = d.empties F M o (all_listed all)

  -- What is known of the table in the end.
  known : SummariesKnown M m xs ys
  known =
      record {
        made = o.limited.made;
        marked = met.marked;
        reached = met.reached;
        shown = d.lefts.shown M o (begun left);
        fits = λ all. d.lefts.fits M o (all_listed all) (begun left, all_told all);
        shown_right = d.rights.shown M o (begun right);
        fits_right = λ all. d.rights.fits M o (all_listed all) (begun right, all_told all);
      }

  -- What the code has in the end is the verdict of every table that is opened in the bytes and the numbers.
  pub done_judged : Judged M v
  done_judged = subst (Judged M) (sym (d.verdict M o)) (checks_judged M m xs ys known)
