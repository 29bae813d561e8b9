-- The comparison call: the first table's 1 to 18, the second's 1 to 18, then 19; else same or different. It writes nothing. Definitions only.
use Rattle.std.specs.Prelude.{◌≡◌, true, false, List, [], ◌∷◌, ℕ, zero, suc, ◌<◌, eqb}
use Rattle.std.proofs.Math.Option.{Option, none, some}
use Rattle.std.proofs.Math.ListN.{get_elem?}
use Rattle.words.specs.declared.No.{No}
use Rattle.words.specs.Reply.{no_at}
use Rattle.machine.specs.Machine.{Table}
use Rattle.machine.specs.Verdict.{earliest, late_as}
use Rattle.promises.specs.Judgement.{JudgementAnswer}
use Rattle.promises.specs.Form.{FormOfText}

-- A refusal says which table: 1 or 2, and 0 for number 19.
pub data Comparison : Type 0 where
  same : Comparison
  different : Comparison
  refusal : ℕ → No → Comparison

-- The refusal about table t with number n at place p.
abbrev pub refused : ℕ → ℕ → ℕ → Comparison
refused t n p = refusal t (no_at n p)

-- An index of the rests as one of the lists.
abbrev pub later : Option ℕ → Option ℕ
later none = none
later (some i) = some (suc i)

-- The first index where arities differ or one list has ended; none if the symbol lists are equal.
unfoldable pub parting : List ℕ → List ℕ → Option ℕ
parting [] [] = none
parting [] (b ∷ bs) = some zero
parting (a ∷ more) [] = some zero
parting (a ∷ more) (b ∷ bs) = elim (eqb a b) [ true ↦ later (parting more bs) | false ↦ some zero ]

-- At index i the lists differ or one of them has ended, and before it they do not differ.
pub record PartsAt (xs ys : List ℕ) (i : ℕ) : Type 0 where
  pub apart : get_elem? xs i ≡ get_elem? ys i → ⊥
  pub before : (j : ℕ) → j < i → get_elem? xs j ≡ get_elem? ys j

-- Two earliest tables' forms, and their symbol lists.
pub record Forms (first second : List ℕ) (F G : Table) : Type 0 where
  pub one : FormOfText first F
  pub two : FormOfText second G

-- a is the answer of the comparison call for two table texts. "Same" is given exactly when the forms agree.
abbrev pub ComparisonAnswer : List ℕ → List ℕ → Comparison → Type 0
ComparisonAnswer first second same = (F : Table) × Forms first second F F
ComparisonAnswer first second different =
    (F : Table) × (G : Table) × Forms first second F G × (parting F.arities G.arities ≡ none) × (F ≡ G → ⊥)
ComparisonAnswer first second (refusal zero x) =
    (F : Table) × (G : Table) × Forms first second F G × (x.number ≡ 19) × (parting F.arities G.arities ≡ some x.place)
ComparisonAnswer first second (refusal (suc zero) x) = JudgementAnswer first (late_as x)
ComparisonAnswer first second (refusal (suc (suc zero)) x) = JudgementAnswer first earliest × JudgementAnswer second (late_as x)
ComparisonAnswer first second (refusal (suc (suc (suc k))) x) = ⊥
