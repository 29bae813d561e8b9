-- What the answers of the comparison say, in the paper's numbers. Definitions only.
use Rattle.std.specs.Prelude.{◌≡◌, Bool, true, false, Result, Ok, Err, zero, suc}
use Rattle.std.proofs.Math.Option.{none, some}
use Rattle.words.specs.Told.{Told}
use Rattle.machine.specs.Machine.{Table}
use Rattle.machine.specs.Form.{IsForm}
use Rattle.promises.specs.Comparison as paper
use Rattle.promises.specs.Comparison.{Comparison, parting}
use Rattle.comparison.specs.declared.TableNo.{TableNo}

-- The paper's answer for each answer of the comparison call: whether the tables are the same, or the refusal.
abbrev pub comparison_of : Result Bool TableNo → Comparison
comparison_of (Ok true) = paper.same
comparison_of (Ok false) = paper.different
comparison_of (Err e) = paper.refusal e.table e.refusal

-- Tables M and N have forms, and r tells whether they are one.
pub record SameForm (M N : Table) (r : Bool) : Type 0 where
  pub one : Table
  pub two : Table
  pub first : IsForm M one
  pub second : IsForm N two
  pub told : Told (one ≡ two) r

-- The answer for two forms: 19 where their symbol lists part, else whether they are one.
abbrev pub ComparedForms : Table → Table → Comparison → Type 0
ComparedForms A B paper.same = A ≡ B
ComparedForms A B paper.different = (parting A.arities B.arities ≡ none) × (A ≡ B → ⊥)
ComparedForms A B (paper.refusal zero x) = (x.number ≡ 19) × (parting A.arities B.arities ≡ some x.place)
ComparedForms A B (paper.refusal (suc t) x) = ⊥

-- Tables M and N have forms, and the answer is that for these.
pub record ComparedTables (M N : Table) (answer : Comparison) : Type 0 where
  pub one : Table
  pub two : Table
  pub first : IsForm M one
  pub second : IsForm N two
  pub told : ComparedForms one two answer
