-- From an opened table and its judgement to the judgement of the text. Assumes nothing.
use mathlib.Core.Path.{◌≡◌, refl, sym, ap, subst, ◌∙◌}
use mathlib.Core.List.{List}
use Prim.Native.Nat.{ℕ}
use native.Mathlib.Omega.{arith}
use Rattle.words.specs.declared.No.{No}
use Rattle.words.specs.Reply.{Reply, given, refusal}
use Rattle.machine.specs.Machine.{Table}
use Rattle.machine.specs.Verdict.{earliest, late_as, Judged}
use Rattle.machine.proofs.Judged.{judged_earliest}
use Rattle.text.specs.Reading.{read_table}
use Rattle.promises.specs.Judgement.{JudgedReading, JudgementAnswer}
use Rattle.layout.specs.Layout.{Meant}
use Rattle.table.specs.Opening.{Opens}
use Rattle.verdict.specs.Judgement.{verdict_of}
use Rattle.judge_call.specs.Judging.{Judges}

-- A refusal is no judgement of earliest.
late_not : (x : No) → ◌≡◌ {A = Reply (Unit {0})} (refusal x) (given tt) → ⊥
late_not x e = let z : ◌≡◌ {A = ℕ} 0 1 = cc in omega arith

-- Where opening refuses, the refusal is the reading's judgement.
opens_late : (F I : List ℕ) (a : Reply Table) (x : No) → Opens F I a (refusal x) → JudgedReading a (late_as x)
opens_late F I (given M) x h = absurd h
opens_late F I (refusal y) x h = ap late_as h

-- The judgement of a table's text, by any reading of it.
read_judges : (F I T : List ℕ) (a : Reply Table) (j : Reply (Unit {0})) → read_table T ≡ a → Opens F I a (given tt)
    → Meant F I (λ M. Judged M (verdict_of j)) → Judges T F I j
read_judges F I T (given M) j e h k =
    record {
      answer = subst (λ (y : Reply Table). JudgedReading y (verdict_of j)) (sym e) (k M h);
      opened = λ d.
          record {
            table = M;
            read = e;
            opened = h;
            earliest = (judged_earliest M).0 (subst (λ (y : Reply (Unit {0})). Judged M (verdict_of y)) d (k M h));
          };
    }
read_judges F I T (refusal x) j e h k = absurd h

module _ (F I : List ℕ) {T : List ℕ} {o : Reply (Unit {0})} (h : Opens F I (read_table T) o) where
  -- The judgement of a text that is refused.
  pub refused_judges : {F' I' : List ℕ} {r : Reply (Unit {0})} (x : No) → o ≡ refusal x → r ≡ refusal x → Judges T F' I' r
  refused_judges {r = r} x e er =
      let d : r ≡ refusal x = er in
      record {
        answer =
            subst (λ (y : Reply (Unit {0})). JudgementAnswer T (verdict_of y)) (sym d)
            (opens_late F I (read_table T) x (subst (λ (y : Reply (Unit {0})). Opens F I (read_table T) y) e h));
        opened = λ k. absurd (late_not x (sym d ∙ k));
      }

  -- The judgement of a table's text.
  pub table_judges : {j : Reply (Unit {0})} → o ≡ (given tt) → Meant F I (λ M. Judged M (verdict_of j)) → Judges T F I j
  table_judges {j} e k = read_judges F I T (read_table T) j refl (subst (λ (y : Reply (Unit {0})). Opens F I (read_table T) y) e h) k

-- The judgement of a text that is known to be late, or earliest.
pub judged_late : {T F I : List ℕ} {j : Reply (Unit {0})} (x : No) → Judges T F I j → j ≡ refusal x → JudgementAnswer T (late_as x)
judged_late {T} x h e = subst (λ (y : Reply (Unit {0})). JudgementAnswer T (verdict_of y)) e h.answer

pub judged_early : {T F I : List ℕ} {j : Reply (Unit {0})} → Judges T F I j → j ≡ given tt → JudgementAnswer T earliest
judged_early {T} h e = subst (λ (y : Reply (Unit {0})). JudgementAnswer T (verdict_of y)) e h.answer
