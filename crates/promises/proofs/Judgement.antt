-- The judgement call has one answer, and it is earliest exactly when the text is read as a table that is trimmed and meets E1 and E2. Assumes nothing.
use mathlib.Core.Path.{◌≡◌, refl, sym, ◌∙◌}
use mathlib.Core.List.{List}
use mathlib.Core.Logic.{◌↔◌}
use Prim.Native.Nat.{ℕ}
use native.Mathlib.Omega.{arith}
use Rattle.words.specs.Reply.{Reply, given, refusal}
use Rattle.machine.specs.Machine.{Table}
use Rattle.machine.specs.Earliest.{Earliest}
use Rattle.machine.specs.Verdict.{Verdict, earliest, late, Judged}
use Rattle.machine.proofs.Judged.{judged_unique, judged_earliest}
use Rattle.text.specs.Reading.{read_table}
use Rattle.promises.specs.Judgement.{JudgedReading, JudgementAnswer}

-- Two answers of the judgement call for one text are equal.
pub judgement_one : (text : List ℕ) (v v' : Verdict) → JudgementAnswer text v → JudgementAnswer text v' → v ≡ v'
judgement_one text v v' = go (read_table text)
  where
    go : (a : Reply Table) → JudgedReading a v → JudgedReading a v' → v ≡ v'
    go (given M) h k = judged_unique M v v' h k
    go (refusal x) h k = h ∙ sym k

-- A text is judged earliest or late, and not both.
pub not_both : (text : List ℕ) (n p : ℕ) → JudgementAnswer text earliest → JudgementAnswer text (late n p) → ⊥
not_both text n p h k =
    let e = judgement_one text earliest (late n p) h k in
    let z : ◌≡◌ {A = ℕ} 0 1 = cc in
    omega arith

-- What an answer about a text says of the table that it is read as.
pub judged_as : (text : List ℕ) (M : Table) (v : Verdict) → read_table text ≡ given M → JudgementAnswer text v → Judged M v
judged_as text M v e h = rw e at h

-- And the other way round.
pub judged_from : (text : List ℕ) (M : Table) (v : Verdict) → read_table text ≡ given M → Judged M v → JudgementAnswer text v
judged_from text M v e h = rw e h

-- A text is called earliest exactly when it is read as an earliest table.
pub earliest_published : (text : List ℕ) → JudgementAnswer text earliest ↔ ((M : Table) × (read_table text ≡ given M) × Earliest M)
earliest_published text = (there, λ h. judged_from text h.0 earliest h.1 ((judged_earliest h.0).1 h.2))
  where
    go : (a : Reply Table) → read_table text ≡ a → JudgedReading a earliest → (M : Table) × (read_table text ≡ given M) × Earliest M
    go (given M) e h = (M, e, (judged_earliest M).0 h)
    go (refusal x) e h = absurd (let z : ◌≡◌ {A = ℕ} 0 1 = cc in omega arith)

    there : JudgementAnswer text earliest → (M : Table) × (read_table text ≡ given M) × Earliest M
    there h = go (read_table text) refl h
