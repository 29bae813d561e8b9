-- The word call: the text's refusal, or the word by the opened table. Assumes nothing.
use mathlib.Core.Path.{◌≡◌, refl, sym, ap, subst, subst⁻¹, ◌∙◌}
use mathlib.Core.List.{List}
use Prim.Native.Nat.{ℕ}
use lib.ListN.{length}
use Rattle.words.specs.Word.{Word}
use Rattle.words.specs.declared.No.{No}
use Rattle.words.specs.Reply.{Reply, given, refusal, ◌then◌}
use Rattle.machine.specs.Machine.{Table}
use Rattle.text.specs.Reading.{read_table}
use Rattle.promises.specs.Room.{into}
use Rattle.promises.specs.Word.{word_on, word_into, word_answer}
use Rattle.layout.specs.Layout.{Opened, Meant}
use Rattle.table.specs.Opening.{Opens}
use Rattle.why_no_word.specs.declared.Letters.{Letters}
use Rattle.why_no_word.specs.Answer.{Answers}
use Rattle.why_no_word.proofs.Said.{refused_said}

-- A reading that was refused, as opening says it.
opens_no : (F I : List ℕ) (a : Reply Table) (x : No) → Opens F I a (refusal x) → a ≡ refusal x
opens_no F I (given M) x h = absurd h
opens_no F I (refusal y) x h = ap refusal (sym h)

-- A reading that was opened, as opening says it.
opens_yes : (F I : List ℕ) (a : Reply Table) → Opens F I a (given tt) → (M : Table) × (a ≡ given M) × Opened F I M
opens_yes F I (given M) h = (M, refl, h)
opens_yes F I (refusal y) h = absurd h

module _ (F I text tree : List ℕ) {R : List ℕ} {o : Reply (Unit {0})} (h : Opens F I (read_table text) o) {r : Reply Letters} where
  -- A text that is refused gives its refusal.
  pub text_answers : (x : No) → o ≡ refusal x → r ≡ refusal x → Answers (word_answer text tree (length R)) R R r
  unfolding word_answer
  text_answers x e er =
      let n = opens_no F I (read_table text) x (subst (λ (y : Reply (Unit {0})). Opens F I (read_table text) y) e h) in
      refused_said R x.number x.place (ap (λ (a : Reply Table). into (length R) (a then λ M. word_on M tree)) n) er

  -- A text that is a table gives the word by the opened table.
  pub table_answers : {R' : List ℕ} → o ≡ (given tt) → Meant F I (λ M. Answers (word_into M tree (length R)) R R' r)
      → Answers (word_answer text tree (length R)) R R' r
  unfolding word_answer word_into
  table_answers {R'} e found =
      let y = opens_yes F I (read_table text) (subst (λ (z : Reply (Unit {0})). Opens F I (read_table text) z) e h) in
      let s = ap (λ (a : Reply Table). into (length R) (a then λ M. word_on M tree)) y.1 in
      subst⁻¹ (λ (a : Reply Word). Answers a R R' r) s (found y.0 y.2)
