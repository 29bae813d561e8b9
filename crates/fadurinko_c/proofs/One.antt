-- Two results that a linked call allows for one input are equal. Assumes nothing.
use mathlib.Core.Path.{◌≡◌, sym, ap, ◌∙◌}
use mathlib.Core.List.{List}
use Prim.Native.Nat.{ℕ}
use lib.ListN.{length}
use Rattle.words.specs.Word.{Word}
use Rattle.words.specs.Reply.{Reply, given, refusal}
use Rattle.machine.specs.Machine.{Table}
use Rattle.machine.specs.Verdict.{Verdict, Judged}
use Rattle.machine.proofs.Judged.{judged_unique}
use Rattle.promises.specs.Judgement.{JudgementAnswer}
use Rattle.promises.specs.Form.{form_room}
use Rattle.promises.proofs.Judgement.{judgement_one}
use Rattle.table.proofs.One.{open_one}
use Rattle.demands.proofs.Settled.{form_one, comparison_one}
use Rattle.entries.specs.Entries.{number_of, verdict_number, verdict_entries, comparison_number, comparison_entries}
use Rattle.fadurinko_c.specs.Linked.{Lent, WordLinked, SpelledLinked, JudgedLinked, OpenLinked, FormLinked, ComparedLinked, form_entries}

-- The calls that give a word, on trees and on records, and those that give the tree of a record or the record of a tree.
pub word_linked_one : (a : Reply Word) (R R₁ R₂ : List ℕ) (n m : ℕ) (D E : List ℕ) → WordLinked a R R₁ n D → WordLinked a R R₂ m E
    → (n ≡ m) × (D ≡ E) × (R₁ ≡ R₂)
word_linked_one a R R₁ R₂ n m D E h k = (h.told ∙ sym k.told, h.all ∙ sym k.all, h.room ∙ sym k.room)

pub spelled_linked_one : (a : Reply (List ℕ)) (R R₁ R₂ : List ℕ) (n m : ℕ) (D E : List ℕ) → SpelledLinked a R R₁ n D → SpelledLinked a R R₂ m E
    → (n ≡ m) × (D ≡ E) × (R₁ ≡ R₂)
spelled_linked_one a R R₁ R₂ n m D E h k = (h.told ∙ sym k.told, h.all ∙ sym k.all, h.room ∙ sym k.room)

-- What was lent is the same after two openings that answer alike.
lent_one : (a : Reply Table) (F I F₁ I₁ F₂ I₂ : List ℕ) → Lent F I F₁ I₁ a → Lent F I F₂ I₂ a → (F₁ ≡ F₂) × (I₁ ≡ I₂)
lent_one (given M) F I F₁ I₁ F₂ I₂ h k =
    let o = open_one F I (given M) (given tt) (given tt) F₁ I₁ F₂ I₂ h.0 h.1 k.0 k.1 in
    (o.1, o.2)
lent_one (refusal x) F I F₁ I₁ F₂ I₂ h k = (h.0 ∙ sym k.0, h.1 ∙ sym k.1)

-- The opening call.
pub open_linked_one : {n m : ℕ} {D E : List ℕ} (a : Reply Table) (F I F₁ I₁ F₂ I₂ : List ℕ) → OpenLinked a F I F₁ I₁ n D → OpenLinked a F I F₂ I₂ m E
    → (n ≡ m) × (D ≡ E) × (F₁ ≡ F₂) × (I₁ ≡ I₂)
open_linked_one a F I F₁ I₁ F₂ I₂ h k =
    let l = lent_one a F I F₁ I₁ F₂ I₂ h.lent k.lent in
    (h.told ∙ sym k.told, h.all ∙ sym k.all, l.0, l.1)

-- Number and entries of one verdict are the same.
verdict_one : (Right : Verdict → Type 0) (n m : ℕ) (D E : List ℕ) → ((v w : Verdict) → Right v → Right w → v ≡ w)
    → JudgedLinked Right n D → JudgedLinked Right m E → (n ≡ m) × (D ≡ E)
verdict_one Right n m D E one h k =
    let e = one h.verdict k.verdict h.answer k.answer in
    (h.told ∙ ap verdict_number e ∙ sym k.told, h.all ∙ ap verdict_entries e ∙ sym k.all)

-- The judgement calls.
pub judge_linked_one : (text : List ℕ) (n m : ℕ) (D E : List ℕ) → JudgedLinked (λ v. JudgementAnswer text v) n D
    → JudgedLinked (λ v. JudgementAnswer text v) m E → (n ≡ m) × (D ≡ E)
judge_linked_one text n m D E = verdict_one (λ v. JudgementAnswer text v) n m D E (judgement_one text)

pub judge_opened_linked_one : (M : Table) (n m : ℕ) (D E : List ℕ) → JudgedLinked (λ v. Judged M v) n D → JudgedLinked (λ v. Judged M v) m E
    → (n ≡ m) × (D ≡ E)
judge_opened_linked_one M n m D E = verdict_one (λ v. Judged M v) n m D E (judged_unique M)

-- The form call.
pub form_linked_one : (text R R₁ R₂ : List ℕ) (n m : ℕ) (D E : List ℕ) → FormLinked text R R₁ n D → FormLinked text R R₂ m E
    → (n ≡ m) × (D ≡ E) × (R₁ ≡ R₂)
form_linked_one text R R₁ R₂ n m D E h k =
    let e = form_one text (length R) h.reply k.reply h.answer k.answer in
    (h.told ∙ ap number_of e ∙ sym k.told, h.all ∙ ap form_entries e ∙ sym k.all, h.room ∙ ap (form_room R) e ∙ sym k.room)

-- The comparison call.
pub compare_linked_one : (one two : List ℕ) (n m : ℕ) (D E : List ℕ) → ComparedLinked one two n D → ComparedLinked one two m E → (n ≡ m) × (D ≡ E)
compare_linked_one one two n m D E h k =
    let e = comparison_one one two h.comparison k.comparison h.answer k.answer in
    (h.told ∙ ap comparison_number e ∙ sym k.told, h.all ∙ ap comparison_entries e ∙ sym k.all)
