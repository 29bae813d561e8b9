-- The answer for a record: that for the tree bytes of its image, or the refusal of its stream or of its image as a tree. Assumes nothing.
use mathlib.Core.Path.{◌≡◌, refl, sym, ap, subst, subst⁻¹, ◌∙◌}
use mathlib.Core.List.{List, [], ◌∷◌, ◌++◌, map}
use Prim.Native.Nat.{ℕ, suc, ◌+◌, ◌<◌, ◌≤◌}
use native.Mathlib.Omega.{arith}
use lib.ListN.{length, take, drop, length-append, length-map}
use lib.Seq.{take_at, append_snoc}
use Rattle.words.specs.Word.{Word}
use Rattle.words.specs.declared.No.{No}
use Rattle.words.specs.Reply.{Reply, given, refusal, ◌then◌}
use Rattle.machine.specs.Machine.{Table}
use Rattle.text.specs.Limits.{symbols_most}
use Rattle.trees.specs.Shape.{read_tree, tree_most}
use Rattle.records.specs.Records.{spell}
use Rattle.records.specs.Calls.{spelled}
use Rattle.records.proofs.Symbols.{last_length}
use Rattle.records.proofs.Counter.{stream_tree}
use Rattle.read_record.specs.RecordRead.{ReadUnder, RecordRead, FewRead}
use Rattle.promises.specs.Room.{into}
use Rattle.promises.specs.Word.{word_in, word_on, word_into}
use Rattle.promises.specs.Records.{word_of_record, on_table}
use Rattle.why_no_word.specs.declared.Letters.{Letters}
use Rattle.why_no_word.specs.Answer.{Answers}
use Rattle.why_no_word.proofs.Said.{refused_said}

-- The first bytes of lent bytes T' to whose front an image was put are that image.
image_front : (s T T' : List ℕ) (a : ℕ) → T' ≡ map (spell a) s ++ a ∷ drop (suc (length s)) T → take (length s + 1) T' ≡ map (spell a) s ++ a ∷ []
image_front s T T' a e =
    let xs = map (spell a) s in
    let rest = drop (suc (length s)) T in
    let n = length-append xs (a ∷ []) ∙ ap (λ (k : ℕ). k + 1) (length-map s (spell a)) in
    ap (take (length s + 1)) (e ∙ sym (append_snoc xs a rest)) ∙ take_at (xs ++ a ∷ []) rest (length s + 1) n

-- The word of those bytes is the word of the image.
pub front_answers : (M : Table) (s T T' R R' : List ℕ) (a : ℕ) (r : Reply Letters) → T' ≡ map (spell a) s ++ a ∷ drop (suc (length s)) T
    → Answers (word_into M (take (length s + 1) T') (length R)) R R' r → Answers (word_into M (map (spell a) s ++ a ∷ []) (length R)) R R' r
front_answers M s T T' R R' a r e = subst (λ (bs : List ℕ). Answers (word_into M bs (length R)) R R' r) (image_front s T T' a e)

-- A stream that was read is short enough for its image.
pub read_few : (s : List ℕ) (r : Reply ℕ) (a : ℕ) → FewRead s r → r ≡ given a → length s < tree_most
read_few s r a h e = subst (FewRead s) e h

-- A refusal of what comes first is the refusal of what comes after it.
then_handed : {A B C : Type 0} (o : Reply A) (f : A → Reply B) (g : B → Reply C) (x : No) → o then f ≡ refusal x → (o then λ a. f a then g) ≡ refusal x
then_handed (given a) f g x e = ap (λ b. b then g) e
then_handed (refusal y) f g x e = cc e

-- The tree bytes of the image of a record that was read: its stream spelled in symbols, and one last symbol more.
record_spelled : (ar s : List ℕ) (a : ℕ) → length ar ≤ 256 → ReadUnder ar s a → spelled ar s ≡ given (map (spell a) s ++ a ∷ [])
unfolding spelled
record_spelled ar s a few h =
    let m : a ≤ 255 = omega (arith, last_length ar a h.symbols) in
    rw (h.symbols, h.read, stream_tree a s h.element m h.read)

module _ (M : Table) (s : List ℕ) (r : Reply ℕ) (read : RecordRead M.arities s r) where
  -- A refusal of the stream, or of its image as a tree, is the answer.
  pub refused_record : (R : List ℕ) (x : No) → r ≡ refusal x → {w : Reply Letters} → w ≡ refusal x
      → Answers (on_table word_of_record M s (length R)) R R w
  unfolding word_of_record word_on
  refused_record R x e f =
      let n = subst (RecordRead M.arities s) e read in
      refused_said R x.number x.place (ap (into (length R)) (then_handed (spelled M.arities s) (read_tree M.arities) (word_in M) x n)) f

  -- The answer for a record that was read is that for the tree bytes of its image.
  pub record_answers : (R R' : List ℕ) (w : Reply Letters) (a : ℕ) → r ≡ given a → length M.arities ≤ symbols_most
      → Answers (word_into M (map (spell a) s ++ a ∷ []) (length R)) R R' w → Answers (on_table word_of_record M s (length R)) R R' w
  unfolding word_of_record word_into
  record_answers R R' w a e few h =
      let i = record_spelled M.arities s a (omega arith) (subst (RecordRead M.arities s) e read) in
      subst⁻¹ (λ (o : Reply Word). Answers o R R' w) (ap (λ (o : Reply (List ℕ)). into (length R) (o then word_on M)) i) h
