-- The number 0 is told for a yes only: no refusal has it. Assumes nothing.
use mathlib.Core.Path.{◌≡◌, refl, sym, subst}
use mathlib.Core.Bool.{Bool, true, false, not}
use mathlib.Core.List.{List, [], ◌∷◌}
use mathlib.Core.Logic.{◌⊎◌, inl, inr}
use mathlib.Core.Option.{Option, none, some}
use Prim.Native.Nat.{ℕ, zero, suc, ◌≤◌}
use native.Mathlib.Omega.{arith}
use lib.Dec.{eqb, ltb}
use lib.ListN.{length}
use Rattle.words.specs.Word.{Word}
use Rattle.words.specs.declared.No.{No}
use Rattle.words.specs.Reply.{Reply, given, refusal, ◌then◌, refuse_if}
use Rattle.machine.specs.Machine.{Tree, Forest, node, ∅, ◌▸◌, Table, output}
use Rattle.machine.specs.Verdict.{Condition, conditions, Verdict, earliest, late_as, JudgedBy, Judged}
use Rattle.text.specs.Reading.{read_table}
use Rattle.text.proofs.Refusals as text
use Rattle.trees.specs.Preorder.{preorder}
use Rattle.trees.specs.Shape.{read_tree}
use Rattle.trees.specs.Lacking.{lacks}
use Rattle.trees.proofs.Refusals as trees
use Rattle.records.specs.Records.{Element, bytes_of, image}
use Rattle.records.specs.Stream.{read_record}
use Rattle.records.specs.Symbols.{last_from, last_symbol}
use Rattle.records.specs.Back.{back_in, back}
use Rattle.records.specs.Calls.{spelled, tree_of, record_of}
use Rattle.records.proofs.Sound.{ReadTold, read_told}
use Rattle.promises.specs.Room.{into}
use Rattle.promises.specs.Word.{word_or, word_in, word_on, word_into, word_answer}
use Rattle.promises.specs.Records.{word_of_record, tree_of_record, record_of_tree, on_table, on_text}
use Rattle.promises.specs.Judgement.{JudgedReading, JudgementAnswer}
use Rattle.promises.specs.Form.{FormText, FormAnswer}
use Rattle.promises.specs.Comparison as paper
use Rattle.promises.specs.Comparison.{Comparison, ComparisonAnswer}
use Rattle.entries.specs.Entries.{number_of, verdict_number, comparison_number}
use Rattle.fadurinko_c.specs.Linked.{WordLinked, SpelledLinked, FormLinked, JudgedLinked, ComparedLinked, OpenLinked}

-- ---- refusals have a number

-- An answer's number, if it is a no, is not 0.
abbrev NoHasNumber : {A : Type 0} → Reply A → Type 0
NoHasNumber (given a) = Unit {0}
NoHasNumber (refusal x) = 1 ≤ x.number

-- What is told of each refusal holds of an answer.
numbered : {A : Type 0} (a : Reply A) → ((x : No) → a ≡ refusal x → 1 ≤ x.number) → NoHasNumber a
numbered (given a) h = tt
numbered (refusal x) h = h x refl

then_numbered : {A B : Type 0} (a : Reply A) (k : A → Reply B) → NoHasNumber a → ((x : A) → NoHasNumber (k x)) → NoHasNumber (a then k)
then_numbered (given x) k h f = f x
then_numbered (refusal x) k h f = h

if_numbered : {A : Type 0} (b : Bool) (n p : ℕ) (a : Reply A) → 1 ≤ n → NoHasNumber a → NoHasNumber (refuse_if b n p a)
if_numbered true n p a h i = h
if_numbered false n p a h i = i

-- A text, tree bytes, a word and a room have such answers.
text_numbered : (t : List ℕ) → NoHasNumber (read_table t)
text_numbered t = numbered (read_table t) (λ x e. (text.read_refused t x.number x.place e).0)

tree_numbered : (ar bs : List ℕ) → NoHasNumber (read_tree ar bs)
tree_numbered ar bs = numbered (read_tree ar bs) (λ x e. omega (arith, (trees.cause_number ((trees.read_refused ar bs x.number x.place).0 e)).0))

or_numbered : (w : Option Word) (p : Option ℕ) → NoHasNumber (word_or w p)
or_numbered (some w) p = tt
or_numbered none (some p) = omega arith
or_numbered none none = omega arith

on_numbered : (M : Table) (tree : List ℕ) → NoHasNumber (word_on M tree)
unfolding word_on word_in
on_numbered M tree =
    then_numbered (read_tree M.arities tree) (word_in M) (tree_numbered M.arities tree)
    (λ t. or_numbered (output M t) (lacks M M.start t 0))

into_numbered : (room : ℕ) (a : Reply (List ℕ)) → NoHasNumber a → NoHasNumber (into room a)
into_numbered room a h = then_numbered a _ h (λ out. if_numbered (ltb room (length out)) 12 (length out) (given out) (omega arith) tt)

-- The word call has such an answer.
find_numbered : (M : Table) (tree : List ℕ) (room : ℕ) → NoHasNumber (word_into M tree room)
unfolding word_into
find_numbered M tree room = into_numbered room (word_on M tree) (on_numbered M tree)

word_numbered : (text tree : List ℕ) (room : ℕ) → NoHasNumber (word_answer text tree room)
unfolding word_answer
word_numbered text tree room =
    into_numbered room (read_table text then λ M. word_on M tree)
    (then_numbered (read_table text) (λ M. word_on M tree) (text_numbered text) (λ M. on_numbered M tree))

-- A symbol list for records, a stream, and a tree's record have such answers.
last_numbered : (ks : List ℕ) (i : ℕ) → NoHasNumber (last_from i ks)
unfolding last_from
last_numbered [] i = omega arith
last_numbered (k ∷ []) i = if_numbered (not (eqb k 0)) 20 i (given i) (omega arith) tt
last_numbered (k ∷ l ∷ ks) i = if_numbered (not (eqb k 2)) 20 i (last_from (suc i) (l ∷ ks)) (omega arith) (last_numbered (l ∷ ks) (suc i))

symbols_numbered : (ar : List ℕ) → NoHasNumber (last_symbol ar)
unfolding last_symbol
symbols_numbered ar = last_numbered ar 0

stream_numbered : (a : ℕ) (s : List ℕ) → NoHasNumber (read_record a s)
stream_numbered a s = go (read_record a s) (read_told a s)
  where
    go : (r : Reply Element) → ReadTold 0 (length s) r → NoHasNumber r
    go (given r) h = tt
    go (refusal x) h = omega (arith, h.0)

back_numbered : (a : ℕ) (t : Tree) → NoHasNumber (back a t)
back_numbered a (node f ts) = go ts
  where
    go : (ts : Forest) → NoHasNumber (back_in a f ts)
    go ∅ = omega arith
    go (t ▸ ∅) = omega arith
    go (t ▸ node g us ▸ ts) = if_numbered (not (eqb g a)) 24 (suc (length (preorder t))) _ (omega arith) tt

spelled_numbered : (ar s : List ℕ) → NoHasNumber (spelled ar s)
unfolding spelled
spelled_numbered ar s =
    then_numbered (last_symbol ar) _ (symbols_numbered ar)
    (λ a. then_numbered (read_record a s) (λ r. given (preorder (image a r))) (stream_numbered a s) (λ r. tt))

-- So have the calls on records,
word_of_numbered : (M : Table) (s : List ℕ) → NoHasNumber (word_of_record M s)
unfolding word_of_record
word_of_numbered M s = then_numbered (spelled M.arities s) (word_on M) (spelled_numbered M.arities s) (on_numbered M)

tree_of_numbered : (M : Table) (s : List ℕ) → NoHasNumber (tree_of_record M s)
unfolding tree_of_record tree_of
tree_of_numbered M s =
    then_numbered (spelled M.arities s) _ (spelled_numbered M.arities s)
    (λ bs. then_numbered (read_tree M.arities bs) (λ t. given bs) (tree_numbered M.arities bs) (λ t. tt))

record_of_numbered : (M : Table) (bs : List ℕ) → NoHasNumber (record_of_tree M bs)
unfolding record_of_tree record_of
record_of_numbered M bs =
    then_numbered (last_symbol M.arities) _ (symbols_numbered M.arities)
    (λ a. then_numbered (read_tree M.arities bs then back a) (λ r. given (bytes_of r))
    (then_numbered (read_tree M.arities bs) (back a) (tree_numbered M.arities bs) (back_numbered a)) (λ r. tt))

-- under a table text too.
call_numbered : (call : Table → List ℕ → Reply (List ℕ)) → ((M : Table) (x : List ℕ) → NoHasNumber (call M x)) → (text x : List ℕ) (room : ℕ)
    → NoHasNumber (on_text call text x room)
call_numbered call h text x room =
    into_numbered room (read_table text then λ M. call M x)
    (then_numbered (read_table text) (λ M. call M x) (text_numbered text) (λ M. h M x))

-- So has a verdict that is not earliest.
abbrev AllNumbered : List Condition → Type 0
AllNumbered [] = Unit {0}
AllNumbered (c ∷ cs) = (1 ≤ c.number) × AllNumbered cs

by_numbered : (cs : List Condition) (x : No) → AllNumbered cs → JudgedBy cs (late_as x) → 1 ≤ x.number
by_numbered [] x h j =
    let z : ◌≡◌ {A = ℕ} 0 1 = cc in
    absurd (omega arith)
by_numbered (c ∷ cs) x h (inl a) =
    let e : x.number ≡ c.number = cc a.2 in
    omega (arith, h.0)
by_numbered (c ∷ cs) x h (inr a) = by_numbered cs x h.1 a.1

judged_numbered : (M : Table) (x : No) → Judged M (late_as x) → 1 ≤ x.number
judged_numbered M x h = by_numbered (conditions M) x (omega arith, (omega arith, (omega arith, (omega arith, (omega arith, (omega arith, tt)))))) h

judgement_numbered : (text : List ℕ) (x : No) → JudgementAnswer text (late_as x) → 1 ≤ x.number
judgement_numbered text x h = go (read_table text) (text_numbered text) h
  where
    go : (a : Reply Table) → NoHasNumber a → JudgedReading a (late_as x) → 1 ≤ x.number
    go (given M) k h = judged_numbered M x h
    go (refusal y) k h =
        let e : x ≡ y = cc in
        let n : x.number ≡ y.number = cc in
        omega arith

-- So have the form call's answer and the comparison's.
form_numbered : (text : List ℕ) (room : ℕ) (a : Reply (List ℕ)) → FormAnswer text room a → NoHasNumber a
form_numbered text room a h = subst (λ (x : Reply (List ℕ)). NoHasNumber x) (sym h.2) (into_numbered room h.0 (go h.0 h.1))
  where
    go : (b : Reply (List ℕ)) → FormText text b → NoHasNumber b
    go (given out) k = tt
    go (refusal x) k = judgement_numbered text x k

comparison_numbered : (one two : List ℕ) (t : ℕ) (x : No) → ComparisonAnswer one two (paper.refusal t x) → 1 ≤ x.number
comparison_numbered one two zero x h = omega (arith, h.3)
comparison_numbered one two (suc zero) x h = judgement_numbered one x h
comparison_numbered one two (suc (suc zero)) x h = judgement_numbered two x h.1
comparison_numbered one two (suc (suc (suc t))) x h = absurd h

-- ---- 0 is a yes

-- An answer whose number is 0 is a yes.
yes_of : {A : Type 0} (a : Reply A) → NoHasNumber a → 0 ≡ number_of a → (x : A) × (a ≡ given x)
yes_of (given x) h e = (x, refl)
yes_of (refusal x) h e = absurd (omega arith)

-- So is the answer of a call on records.
module _ (call : Table → List ℕ → Reply (List ℕ)) (numbered : (M : Table) (x : List ℕ) → NoHasNumber (call M x)) where
  text_yes : (text x : List ℕ) (room : ℕ) → 0 ≡ number_of (on_text call text x room) → (y : List ℕ) × (on_text call text x room ≡ given y)
  text_yes text x room = yes_of (on_text call text x room) (call_numbered call numbered text x room)

  table_yes : (M : Table) (x : List ℕ) (room : ℕ) → 0 ≡ number_of (on_table call M x room) → (y : List ℕ) × (on_table call M x room ≡ given y)
  table_yes M x room = yes_of (on_table call M x room) (into_numbered room (call M x) (numbered M x))

-- A verdict whose number is 0 is earliest.
earliest_of : (Right : Verdict → Type 0) (v : Verdict) → ((x : No) → Right (late_as x) → 1 ≤ x.number) → Right v → 0 ≡ verdict_number v → Right earliest
earliest_of Right earliest h a e = a
earliest_of Right (late_as x) h a e = absurd (omega (arith, h x a))

-- The linked calls tell 0 for a yes only.
pub word_zero : {E : List ℕ} (text tree R R' : List ℕ) → WordLinked (word_answer text tree (length R)) R R' 0 E
    → (w : Word) × (word_answer text tree (length R) ≡ given w)
word_zero text tree R R' h = yes_of (word_answer text tree (length R)) (word_numbered text tree (length R)) h.told

pub find_zero : {E : List ℕ} (M : Table) (tree R R' : List ℕ) → WordLinked (word_into M tree (length R)) R R' 0 E
    → (w : Word) × (word_into M tree (length R) ≡ given w)
find_zero M tree R R' h = yes_of (word_into M tree (length R)) (find_numbered M tree (length R)) h.told

pub record_word_zero : {E : List ℕ} (text s R R' : List ℕ) → WordLinked (on_text word_of_record text s (length R)) R R' 0 E
    → (w : Word) × (on_text word_of_record text s (length R) ≡ given w)
record_word_zero text s R R' h = text_yes word_of_record word_of_numbered text s (length R) h.told

pub record_tree_zero : {E : List ℕ} (text s R R' : List ℕ) → SpelledLinked (on_text tree_of_record text s (length R)) R R' 0 E
    → (bs : List ℕ) × (on_text tree_of_record text s (length R) ≡ given bs)
record_tree_zero text s R R' h = text_yes tree_of_record tree_of_numbered text s (length R) h.told

pub tree_record_zero : {E : List ℕ} (text bs R R' : List ℕ) → SpelledLinked (on_text record_of_tree text bs (length R)) R R' 0 E
    → (s : List ℕ) × (on_text record_of_tree text bs (length R) ≡ given s)
tree_record_zero text bs R R' h = text_yes record_of_tree record_of_numbered text bs (length R) h.told

pub record_word_opened_zero : {E : List ℕ} (M : Table) (s R R' : List ℕ) → WordLinked (on_table word_of_record M s (length R)) R R' 0 E
    → (w : Word) × (on_table word_of_record M s (length R) ≡ given w)
record_word_opened_zero M s R R' h = table_yes word_of_record word_of_numbered M s (length R) h.told

pub record_tree_opened_zero : {E : List ℕ} (M : Table) (s R R' : List ℕ) → SpelledLinked (on_table tree_of_record M s (length R)) R R' 0 E
    → (bs : List ℕ) × (on_table tree_of_record M s (length R) ≡ given bs)
record_tree_opened_zero M s R R' h = table_yes tree_of_record tree_of_numbered M s (length R) h.told

pub tree_record_opened_zero : {E : List ℕ} (M : Table) (bs R R' : List ℕ) → SpelledLinked (on_table record_of_tree M bs (length R)) R R' 0 E
    → (s : List ℕ) × (on_table record_of_tree M bs (length R) ≡ given s)
tree_record_opened_zero M bs R R' h = table_yes record_of_tree record_of_numbered M bs (length R) h.told

pub judge_zero : {E : List ℕ} (text : List ℕ) → JudgedLinked (λ v. JudgementAnswer text v) 0 E → JudgementAnswer text earliest
judge_zero text h = earliest_of (λ v. JudgementAnswer text v) h.verdict (judgement_numbered text) h.answer h.told

pub judge_opened_zero : {E : List ℕ} (M : Table) → JudgedLinked (λ v. Judged M v) 0 E → Judged M earliest
judge_opened_zero M h = earliest_of (λ v. Judged M v) h.verdict (judged_numbered M) h.answer h.told

pub form_zero : {E : List ℕ} (text R R' : List ℕ) → FormLinked text R R' 0 E → (out : List ℕ) × FormAnswer text (length R) (given out)
form_zero text R R' h =
    let y = yes_of h.reply (form_numbered text (length R) h.reply h.answer) h.told in
    (y.0, subst (λ (a : Reply (List ℕ)). FormAnswer text (length R) a) y.1 h.answer)

pub compare_zero : {E : List ℕ} (one two : List ℕ) → ComparedLinked one two 0 E → ComparisonAnswer one two paper.same ⊎ ComparisonAnswer one two paper.different
compare_zero one two h = go h.comparison h.answer h.told
  where
    go : (c : Comparison) → ComparisonAnswer one two c → 0 ≡ comparison_number c → ComparisonAnswer one two paper.same ⊎ ComparisonAnswer one two
        paper.different
    go paper.same a e = inl a
    go paper.different a e = inr a
    go (paper.refusal t x) a e = absurd (omega (arith, comparison_numbered one two t x a))

pub open_zero : {E : List ℕ} (text F I F' I' : List ℕ) → OpenLinked (read_table text) F I F' I' 0 E → (M : Table) × (read_table text ≡ given M)
open_zero text F I F' I' h = yes_of (read_table text) (text_numbered text) h.told
