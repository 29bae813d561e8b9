-- The checks by their numbers, and the least place that does not pass one. Definitions only.
use Rattle.std.specs.Prelude.{Bool, true, false, not, List, [], ◌∷◌, ℕ, eqb, length, get_or}
use Rattle.std.proofs.Math.Option.{Option, none, some}
use Rattle.std.proofs.Math.ListN.{get_elem?}
use Rattle.words.specs.declared.No.{No}
use Rattle.words.specs.Reply.{no_at}
use Rattle.machine.specs.Machine.{Table}
use Rattle.machine.specs.Verdict.{Verdict, earliest, late_as}
use Rattle.end_laws.specs.Ends.{lives, clean, stuck}
use Rattle.end_laws.specs.Companion.{Check, free_row}
use Rattle.summary.specs.Codes.{K}
use Rattle.summary.specs.declared.Summary.{Summary}
use Rattle.std.specs.Prelude.{Result, Some, None, Ok, Err, MatchOption, ◌<◌}
use Rattle.std.specs.Prelude as code

-- The place that was found, if any.
abbrev pub place_of : code.Option ℕ → Option ℕ
place_of (Some p) = some p
place_of None = none

-- The least of n places that fails, if any does.
abbrev pub IsLeast : (ℕ → Type 0) → ℕ → code.Option ℕ → Type 0
IsLeast fails n o = MatchOption o ((q : ℕ) → q < n → fails q → ⊥) (λ p. (p < n) × fails p × ((q : ℕ) → q < p → fails q → ⊥))

-- One of six by a number from 13 to 18, another for any other number.
abbrev pub by_number : {A : Type 0} → ℕ → A → A → A → A → A → A → A → A
by_number n a b c d e f other =
    elim (eqb n 13) [
      | true ↦ a
      | false ↦ elim (eqb n 14) [
        | true ↦ b
        | false ↦ elim (eqb n 15) [
          | true ↦ c
          | false ↦ elim (eqb n 16) [
            | true ↦ d
            | false ↦ elim (eqb n 17) [ true ↦ e | false ↦ elim (eqb n 18) [ true ↦ f | false ↦ other ] ]
          ]
        ]
      ]
    ]

-- How many places the check with this number has.
abbrev pub places_at : ℕ → Table → ℕ
places_at n M = by_number n M.states M.states M.states M.states 1 (length M.rows) 0

-- The test of a place by the check with this number, by the marks m (not 0 is a mark) and the summaries xs at the left and ys at the right.
abbrev pub passes_at : ℕ → Table → List ℕ → List Summary → List Summary → ℕ → Bool
passes_at n M m xs ys p =
    by_number n (not (eqb (get_or m p 0) 0)) (lives (K xs p)) (clean (K xs p)) (clean (K ys p)) (not (stuck (K xs M.start) M.after))
    (free_row (K xs) (get_elem? M.rows p)) true

-- The check with this number.
abbrev pub check_at : ℕ → Table → List ℕ → List Summary → List Summary → Check
check_at n M m xs ys = record { number = n; places = places_at n M; passes = passes_at n M m xs ys }

-- All checks in number order.
abbrev pub all_checks : Table → List ℕ → List Summary → List Summary → List Check
all_checks M m xs ys =
    check_at 13 M m xs ys ∷ check_at 14 M m xs ys ∷ check_at 15 M m xs ys ∷ check_at 16 M m xs ys ∷ check_at 17 M m xs ys ∷ check_at 18 M m xs ys ∷ []

-- What is answered for the check with this number, by the least place that does not pass.
abbrev pub checked : ℕ → code.Option ℕ → Result Unit No
checked n None = Ok tt
checked n (Some p) = Err (no_at n p)

-- The verdict where a check is answered so, and v where it is passed.
abbrev pub verdict_then : Result Unit No → Verdict → Verdict
verdict_then (Ok u) v = v
verdict_then (Err x) v = late_as x

-- The verdict that is answered: earliest where all checks are passed.
abbrev pub verdict_by : Result Unit No → Verdict
verdict_by r = verdict_then r earliest
