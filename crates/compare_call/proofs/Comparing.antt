-- From two judged texts and the comparison of their tables to the answer of the comparison call. Assumes nothing.
use mathlib.Core.Path.{◌≡◌, refl, sym, ap, subst, ◌∙◌}
use mathlib.Core.Bool.{Bool, true≢false}
use mathlib.Core.List.{List}
use Prim.Native.Nat.{ℕ, zero, suc}
use Rattle.std.specs.Prelude.{Result, Ok, is_ok}
use Rattle.words.specs.Reply.{Reply, given, refusal}
use Rattle.machine.specs.Machine.{Table}
use Rattle.machine.specs.Earliest.{Earliest}
use Rattle.promises.specs.Comparison as paper
use Rattle.promises.specs.Comparison.{Comparison, Forms, ComparisonAnswer}
use Rattle.layout.specs.Layout.{Opened}
use Rattle.judge_call.specs.Judging.{Judges}
use Rattle.judge_call.proofs.Readings.{judged_early}
use Rattle.comparison.specs.declared.TableNo.{TableNo}
use Rattle.comparison.specs.Answers.{comparison_of, ComparedForms, ComparedTables}

-- A judgement whose refusal would have been handed on, but was not, is earliest.
pub not_handed : (j : Reply (Unit {0})) (r : Result (Unit {0}) TableNo) → r ≡ Ok tt → is_ok r ≡ is_ok j → j ≡ given tt
not_handed (given _) r e v = refl
not_handed (refusal x) r e v = absurd (true≢false (sym (ap is_ok e) ∙ v))

-- Two texts whose judgements are earliest.
pub record TwoEarliest (first second F I G J : List ℕ) (i j : Reply (Unit {0})) : Type 0 where
  pub one : Judges first F I i
  pub early : i ≡ given tt
  pub two : Judges second G J j
  pub early2 : j ≡ given tt

-- The answer for the forms of two texts' tables is the answer for the texts.
forms_answer : {first second : List ℕ} (A B : Table) (c : Comparison) → Forms first second A B → ComparedForms A B c → ComparisonAnswer first second c
forms_answer {first} {second} A B paper.same f e = (B, subst (λ (X : Table). Forms first second X B) e f)
forms_answer A B paper.different f d = (A, B, f, d.0, d.1)
forms_answer A B (paper.refusal zero x) f d = (A, B, f, d.0, d.1)
forms_answer A B (paper.refusal (suc t) x) f d = absurd d

-- Two texts whose judgements are earliest are compared by their tables.
pub texts_compared : {first second F I G J : List ℕ} {i j : Reply (Unit {0})} (r : Result Bool TableNo) → TwoEarliest first second F I G J i j
    → ((M N : Table) → Opened F I M → Earliest M → Opened G J N → Earliest N → ComparedTables M N (comparison_of r))
    → ComparisonAnswer first second (comparison_of r)
texts_compared r b k =
    let m = b.one.opened b.early in
    let n = b.two.opened b.early2 in
    let s = k m.table n.table m.opened m.earliest n.opened n.earliest in
    forms_answer s.one s.two (comparison_of r)
    (record {
      one = record { table = m.table; read = m.read; judged = judged_early b.one b.early; form = s.first };
      two = record { table = n.table; read = n.read; judged = judged_early b.two b.early2; form = s.second };
    })
    s.told
