-- The answer for a tree that was counted: 12, or the room that is filled with the words of the initial rule and the tree's word between them. Assumes nothing.
use mathlib.Core.Path.{◌≡◌, refl, subst, subst⁻¹}
use mathlib.Core.List.{List, ◌++◌}
use Prim.Native.Nat.{ℕ, ◌+◌, ◌<◌, ◌≤◌}
use native.Mathlib.Omega.{arith}
use lib.ListN.{length, take, drop, length-append}
use Rattle.words.specs.Word.{Word, terms}
use Rattle.words.specs.Reply.{Reply, given, refusal, refused}
use Rattle.machine.specs.Machine.{Tree, Table}
use Rattle.trees.specs.Preorder.{preorder}
use Rattle.trees.specs.Shape.{tree_most, depth_most}
use Rattle.trees.proofs.Whole.{read_complete}
use Rattle.promises.specs.Room.{into}
use Rattle.promises.specs.Word.{word_on, word_into}
use Rattle.layout.specs.Layout.{Opened, Meant}
use Rattle.words.specs.declared.No.{No}
use Rattle.walk.specs.Walked.{Wordless}
use Rattle.walk.specs.Plan.{Counted}
use Rattle.std.specs.Prelude.{Option, Some, None, IfSome, ◌≤◌}
use Rattle.measure.specs.Measures.{MeasureOf}
use Rattle.word_writer.specs.WordWritten.{Due}
use Rattle.why_no_word.specs.declared.Letters.{Letters}
use Rattle.why_no_word.specs.Answer.{Answers}
use Rattle.why_no_word.proofs.Said.{refused_said, short_said, word_said}
use Rattle.why_no_word.proofs.Read.{into_no, into_word}
use Rattle.word_call.proofs.Room.{three_filled}

-- u and v are the words of the initial rule, and the tree that the bytes S are was counted.
pub record Output (F I S P : List ℕ) (letters : ℕ) (u v : Word) (M : Table) : Type 0 where
  pub opened : Opened F I M
  pub counted : Counted F S P M M.start letters
  pub first : u ≡ M.before
  pub last : v ≡ M.after

-- Into the room R were put u, the word of a planned tree, and v, one behind the other, which left the room R'.
pub record ThreePut (F P : List ℕ) (letters : ℕ) (u v : Word) (R R' : List ℕ) : Type 0 where
  pub room₁ : List ℕ
  pub room₂ : List ℕ
  pub from : ℕ
  pub first : room₁ ≡ take 0 R ++ u ++ drop (0 + length u) R
  pub from_is : from ≡ 0 + length u
  pub tree : (M : Table) (q : ℕ) (t : Tree) (w : Word) → Due F P 0 depth_most letters M q t w → letters ≡ length w
      → room₂ ≡ take from room₁ ++ w ++ drop (from + letters) room₁
  pub last : R' ≡ take (from + letters) room₂ ++ v ++ drop (from + letters + length v) room₂

module _ {F I S P : List ℕ} {letters : ℕ} {u v : Word} {M : Table} (b : Output F I S P letters u v M) where
  -- The output is the three words, one behind the other.
  output_is : u ++ b.counted.letters_of ++ v ≡ M.before ++ b.counted.letters_of ++ M.after
  output_is = cc (b.first, b.last)

  -- It has the letters of the three.
  output_long : length u + letters + length v ≡ length (u ++ b.counted.letters_of ++ v)
  output_long = simp length-append (omega (arith, b.counted.many))

  -- The definition's answer is that for the three words.
  output_answer : {r : Reply Letters} (R R' : List ℕ) → Answers (into (length R) (given (u ++ b.counted.letters_of ++ v))) R R' r
      → Answers (word_into M S (length R)) R R' r
  output_answer {r} R R' a =
      let k = b.counted in
      let e = read_complete M.arities S k.tree k.bytes k.ranked k.levels k.size in
      subst⁻¹ (λ (x : Reply Word). Answers x R R' r) (into_word M S k.tree e (length R) k.letters_of k.is) (rw output_is at a)

  -- A room that is too short is refused with the length of the three.
  pub output_short : {r : Reply Letters} (R : List ℕ) → length R < length u + letters + length v
      → r ≡ refused 12 (length u + letters + length v) → Answers (word_into M S (length R)) R R r
  output_short R h e = output_answer R R (short_said R (u ++ b.counted.letters_of ++ v) (length u + letters + length v) output_long h e)

  -- Writing by the plan is due.
  output_due : Due F P 0 depth_most letters M M.start b.counted.tree b.counted.letters_of
  output_due =
      let k = b.counted in
      let s : length (preorder k.tree) ≤ tree_most = rw k.bytes at k.size in
      record {
        bytes = b.opened.bytes;
        planned = k.planned;
        levels = k.levels;
        inside = omega arith;
        word = k.is;
        fits = omega (arith, k.many);
      }

  -- In a room that is long enough the three are put one behind the other.
  pub output_fits : {r : Reply Letters} {R R' : List ℕ} (n : ℕ) → length u + letters + length v ≤ length R → ThreePut F P letters u v R R'
      → n ≡ terms (take (length u + letters + length v) R') → r ≡ given (record { length = length u + letters + length v; terms = n })
      → Answers (word_into M S (length R)) R R' r
  output_fits {r} {R} {R'} n h p en er =
      let k = b.counted in
      let w : Word = k.letters_of in
      let R₁ = p.room₁ in
      let R₂ = p.room₂ in
      let from = p.from in
      let wrote = p.tree M M.start k.tree w output_due k.many in
      output_answer R R'
      (word_said R R' (u ++ w ++ v) (length u + letters + length v) n output_long en h er
      (three_filled R R₁ R₂ R' u w v from p.first p.from_is
      (subst (λ (x : ℕ). R₂ ≡ take from R₁ ++ w ++ drop (from + x) R₁) k.many wrote)
      (subst (λ (x : ℕ). R' ≡ take (from + x) R₂ ++ v ++ drop (from + x + length v) R₂) k.many p.last)))

-- What a measure that counted says.
pub measured_counted : {F S P : List ℕ} {M : Table} {q : ℕ} {r : Option ℕ} (letters : ℕ) → MeasureOf F S P M q r
    → r ≡ Some letters → Counted F S P M q letters
measured_counted {F} {S} {P} {M} {q} letters h e = subst (λ (x : Option ℕ). MeasureOf F S P M q x) e h

-- It counted few letters.
pub measured_few : (r : Option ℕ) (letters : ℕ) → IfSome r (λ n. n ≤ 8388608) → r ≡ Some letters → letters ≤ 8388608
measured_few r letters h e = rw e at h

-- What a measure that did not count says: why there is no word is the answer.
pub measured_other : {F I : List ℕ} (S P : List ℕ) {M : Table} (r : Option ℕ) {why : No} (R : List ℕ) → MeasureOf F S P M M.start r
    → r ≡ None → Opened F I M → Meant F I (λ M. Wordless M S M.start → word_on M S ≡ refused why.number why.place)
    → Answers (word_into M S (length R)) R R (refusal why)
measured_other {F} {I} S P {M} r {why} R h e o told =
    let n = subst (λ (x : Option ℕ). MeasureOf F S P M M.start x) e h in
    refused_said R why.number why.place (into_no M S (length R) why.number why.place (told M o n)) refl
