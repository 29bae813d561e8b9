-- What a linked call hands out for each answer of the paper: its number is returned, and its entries go into the array. Definitions only.
use Rattle.std.specs.Prelude.{◌≡◌, List, ℕ, length}
use Rattle.words.specs.Word.{Word}
use Rattle.words.specs.Reply.{Reply, given, refusal}
use Rattle.machine.specs.Machine.{Table}
use Rattle.machine.specs.Verdict.{Verdict}
use Rattle.promises.specs.Room.{filled}
use Rattle.promises.specs.Word.{letters_of}
use Rattle.promises.specs.Form.{FormAnswer, form_room}
use Rattle.promises.specs.Comparison.{Comparison, ComparisonAnswer}
use Rattle.layout.specs.Layout.{Opened}
use Rattle.table.specs.Opening.{Unchanged}
use Rattle.entries.specs.Entries.{blank, number_of, entries_of, letters_entries, length_entries}
use Rattle.entries.specs.Entries.{verdict_number, verdict_entries, comparison_number, comparison_entries}

-- The entries of a word's answer, of one that writes a form or other bytes, and of a reading.
abbrev pub word_entries : Reply Word → List ℕ
word_entries a = entries_of (λ w. letters_entries (letters_of w)) a

abbrev pub form_entries : Reply (List ℕ) → List ℕ
form_entries a = entries_of (λ out. length_entries (length out)) a

abbrev pub open_entries : Reply Table → List ℕ
open_entries a = entries_of (λ M. blank) a

-- The word call with answer a: number, entries, and the room after it.
pub record WordLinked (a : Reply Word) (R R' : List ℕ) (number : ℕ) (entries : List ℕ) : Type 0 where
  pub told : number ≡ number_of a
  pub all : entries ≡ word_entries a
  pub room : R' ≡ filled R a

-- The tree call and the record call with answer a: number, entries, and the room after it.
pub record SpelledLinked (a : Reply (List ℕ)) (R R' : List ℕ) (number : ℕ) (entries : List ℕ) : Type 0 where
  pub told : number ≡ number_of a
  pub all : entries ≡ form_entries a
  pub room : R' ≡ filled R a

-- The form call: number, entries, and the room after it are those of an answer of the definition.
pub record FormLinked (text R R' : List ℕ) (number : ℕ) (entries : List ℕ) : Type 0 where
  pub reply : Reply (List ℕ)
  pub answer : FormAnswer text (length R) reply
  pub told : number ≡ number_of reply
  pub all : entries ≡ form_entries reply
  pub room : R' ≡ form_room R reply

-- The judgement call: number and entries are those of a verdict that is right, by what is asked of it.
pub record JudgedLinked (Right : Verdict → Type 0) (number : ℕ) (entries : List ℕ) : Type 0 where
  pub verdict : Verdict
  pub answer : Right verdict
  pub told : number ≡ verdict_number verdict
  pub all : entries ≡ verdict_entries verdict

-- The comparison call: number and entries are those of an answer of the definition.
pub record ComparedLinked (one two : List ℕ) (number : ℕ) (entries : List ℕ) : Type 0 where
  pub comparison : Comparison
  pub answer : ComparisonAnswer one two comparison
  pub told : number ≡ comparison_number comparison
  pub all : entries ≡ comparison_entries comparison

-- What was lent, F and I, becomes the opened table, and what it does not use of them stays as it was; for a no all of them stay.
abbrev pub Lent : (F I F' I' : List ℕ) → Reply Table → Type 0
Lent F I F' I' (given M) = Opened F' I' M × Unchanged F I F' I' (given M)
Lent F I F' I' (refusal x) = Unchanged F I F' I' (refusal x)

-- The opening call with the reading a: number, entries, and all that was lent.
pub record OpenLinked (a : Reply Table) (F I F' I' : List ℕ) (number : ℕ) (entries : List ℕ) : Type 0 where
  pub told : number ≡ number_of a
  pub all : entries ≡ open_entries a
  pub lent : Lent F I F' I' a
