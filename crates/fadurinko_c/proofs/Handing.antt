-- What the calls answer is what is handed out for the paper's answers. Assumes nothing.
use mathlib.Core.Path.{◌≡◌, refl, sym, ap, ◌∙◌}
use mathlib.Core.List.{List}
use Prim.Native.Nat.{ℕ}
use lib.ListN.{length}
use Rattle.words.specs.Word.{Word}
use Rattle.words.specs.Reply.{Reply, given, refusal, mapped}
use Rattle.machine.specs.Machine.{Table}
use Rattle.machine.specs.Verdict.{Verdict, earliest, late_as}
use Rattle.promises.specs.Word.{letters_of}
use Rattle.table.specs.Opening.{Opens, Unchanged}
use Rattle.verdict.specs.Judgement.{verdict_of}
use Rattle.why_no_word.specs.declared.Letters.{Letters}
use Rattle.why_no_word.specs.Answer.{counts_of, Answers}
use Rattle.spelling.specs.Spells.{Spells}
use Rattle.form_call.specs.Formed as form
use Rattle.entries.specs.Entries.{blank, no_entries, number_of, entries_of, letters_entries, length_entries}
use Rattle.fadurinko_c.specs.Linked.{WordLinked, SpelledLinked, FormLinked, JudgedLinked, OpenLinked}

-- Number and entries stay where a yes gets another value.
number_mapped : {A B : Type 0} (f : A → B) (a : Reply A) → number_of (mapped f a) ≡ number_of a
number_mapped f (given a) = refl
number_mapped f (refusal x) = refl

entries_mapped : {A B : Type 0} (f : A → B) (entries : B → List ℕ) (a : Reply A) → entries_of entries (mapped f a) ≡ entries_of (λ x. entries (f x)) a
entries_mapped f entries (given a) = refl
entries_mapped f entries (refusal x) = refl

-- The word call hands out what its definition answers.
pub word_linked : {a : Reply Word} {R R' E : List ℕ} {f : Reply Letters} {n : ℕ} → Answers a R R' f → n ≡ number_of f
    → E ≡ entries_of letters_entries (mapped counts_of f) → WordLinked a R R' n E
word_linked {a} {f = f} h en ee =
    record {
      told = en ∙ sym (number_mapped counts_of f) ∙ ap number_of h.answer ∙ number_mapped letters_of a;
      all = ee ∙ ap (entries_of letters_entries) h.answer ∙ entries_mapped letters_of letters_entries a;
      room = h.room;
    }

-- The tree call and the record call hand out what their definitions answer.
pub spelled_linked : {a : Reply (List ℕ)} {R R' E : List ℕ} {r : Reply ℕ} {n : ℕ} → Spells a R R' r → n ≡ number_of r
    → E ≡ entries_of length_entries r → SpelledLinked a R R' n E
spelled_linked {a} h en ee =
    record {
      told = en ∙ ap number_of h.answer ∙ number_mapped length a;
      all = ee ∙ ap (entries_of length_entries) h.answer ∙ entries_mapped length length_entries a;
      room = h.room;
    }

-- The form call hands out what its definition answers.
pub form_linked : {text R R' E : List ℕ} {r : Reply ℕ} {n : ℕ} → form.FormAnswered text R R' r → n ≡ number_of r
    → E ≡ entries_of length_entries r → FormLinked text R R' n E
form_linked h en ee =
    record {
      reply = h.reply;
      answer = h.answer;
      told = en ∙ ap number_of h.told ∙ number_mapped length h.reply;
      all = ee ∙ ap (entries_of length_entries) h.told ∙ entries_mapped length length_entries h.reply;
      room = h.room;
    }

-- The opening call hands out what the reading answers, and what was lent.
pub open_linked : {F I F' I' E : List ℕ} {n : ℕ} (a : Reply Table) (r : Reply (Unit {0})) → Opens F' I' a r → Unchanged F I F' I' a → n ≡ number_of r
    → E ≡ entries_of (λ _. blank) r → OpenLinked a F I F' I' n E
open_linked (given M) (given _) o u en ee = record { told = en; all = ee; lent = (o, u) }
open_linked (given M) (refusal x) o u en ee = absurd o
open_linked (refusal y) (given _) o u en ee = absurd o
open_linked (refusal y) (refusal x) o u en ee =
    record { told = en ∙ ap (λ z. z.number) o; all = ee ∙ ap (no_entries 0) o; lent = u }

-- A judgement call hands out its verdict.
pub judged_linked : (Right : Verdict → Type 0) (r : Reply (Unit {0})) {n : ℕ} {E : List ℕ} → Right (verdict_of r) → n ≡ number_of r
    → E ≡ entries_of (λ _. blank) r → JudgedLinked Right n E
judged_linked Right (given _) h en ee = record { verdict = earliest; answer = h; told = en; all = ee }
judged_linked Right (refusal x) h en ee = record { verdict = late_as x; answer = h; told = en; all = ee }
