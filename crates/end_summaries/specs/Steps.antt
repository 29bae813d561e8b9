-- What is done to the summaries of the states when rules are added to them. Definitions only.
use Rattle.std.specs.Prelude.{◌≡◌, List, ℕ, ◌≤◌, ◌<◌}
use Rattle.machine.specs.Machine.{Row, Table}
use Rattle.end_laws.specs.Ends.{Side, Ends, at}
use Rattle.end_laws.specs.Meaning.{Witnessed, Covering}
use Rattle.end_laws.specs.Companion.{visit}
use Rattle.layout.specs.Layout.{Meant}
use Rattle.layout.specs.Leaves.{RowAt}
use Rattle.summary.specs.Codes.{K, summaries}
use Rattle.summary.specs.declared.Summary.{Summary}
use Rattle.empty_words.specs.Blank.{EmptyTold, ListedBetween, AllListed}

-- What the summaries claim is witnessed, and they tell of every empty word.
abbrev pub ReadySummaries : Table → Side → (ℕ → Ends) → Type 0
ReadySummaries M side k = Witnessed M side k × EmptyTold M k

-- Rules of a table are added to the summaries xs, which become ys. What they claim stays witnessed and the empty words stay told.
-- If both were so and k is 0, then no rule that was tried, by its number and row, adds anything.
pub record Tried (M : Table) (side : Side) (tried : ℕ → Row → Type 0) (xs ys : List Summary) (k : ℕ) : Type 0 where
  pub keeps : Witnessed M side (at (summaries xs)) → Witnessed M side (at (summaries ys))
  pub tells : EmptyTold M (at (summaries xs)) → EmptyTold M (at (summaries ys))
  pub rests : ReadySummaries M side (at (summaries xs)) → k ≡ 0 → (i : ℕ) (row : Row) → RowAt M i row → tried i row
      → visit side row (summaries ys) ≡ summaries ys

-- That is so for every table that is opened in the bytes F and the numbers I.
abbrev pub Adds : List ℕ → List ℕ → Side → (ℕ → Row → Type 0) → List Summary → List Summary → ℕ → Type 0
Adds F I side tried xs ys k = Meant F I (λ M. Tried M side tried xs ys k)

-- The rules with the numbers from `from` on and before `to`.
abbrev pub RulesBetween : ℕ → ℕ → ℕ → Row → Type 0
RulesBetween from to i row = (from ≤ i) × (i < to)

-- The rules of state q.
abbrev pub OneState : ℕ → ℕ → Row → Type 0
OneState q i row = row.state ≡ q

-- The rules of the states of an order O from place j on and before place n.
abbrev pub RulesOfListed : List ℕ → ℕ → ℕ → ℕ → Row → Type 0
RulesOfListed O j n i row = ListedBetween O j n row.state

-- What settling makes of the summaries xs, for every table that is opened in the bytes F and the numbers I.
-- What they claim stays witnessed, and where each state is listed and xs is ready, every word fits.
pub record Settles (F I O : List ℕ) (n : ℕ) (side : Side) (xs ys : List Summary) : Type 0 where
  pub shown : Meant F I (λ M. Witnessed M side (K xs) → Witnessed M side (K ys))
  pub fits : Meant F I (λ M. AllListed M O n → ReadySummaries M side (K xs) → Covering M side (K ys))
