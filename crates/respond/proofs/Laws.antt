-- From the answers of the calls to the lines that are put. Assumes nothing.
use mathlib.Core.Path.{◌≡◌, refl, sym, ap, subst, ◌∙◌}
use mathlib.Core.Bool.{Bool, true, false, true≢false, ◌&&◌}
use mathlib.Core.List.{List}
use mathlib.Core.Option.{Option, none, some}
use Prim.Native.Nat.{ℕ, zero, suc, ◌<◌}
use native.Mathlib.Omega.{arith}
use borrow.Author.Tests.{lt-ltb, ltb-true}
use lib.Dec.{ltb}
use lib.ListN.{length, take, drop}
use lib.Seq.{take-append_seam}
use Rattle.words.specs.declared.No.{No}
use Rattle.words.specs.Word.{terms}
use Rattle.words.specs.Reply.{Reply, given, refusal, refused, ◌then◌, mapped}
use Rattle.words.proofs.Replies.{given_injective, given_refused, refusal_injective}
use Rattle.words.specs.Told.{Told}
use Rattle.machine.specs.Machine.{Tree, Table}
use Rattle.text.specs.Lines.{bytes_of}
use Rattle.trees.specs.Shape.{tree_most, read_tree}
use Rattle.records.specs.Symbols.{last_symbol}
use Rattle.records.specs.Calls.{spelled, tree_of, record_of}
use Rattle.records.proofs.Ranked.{tree_long}
use Rattle.promises.specs.Room.{into}
use Rattle.promises.specs.Word.{word_in, word_on, word_into}
use Rattle.promises.specs.Records.{word_of_record, tree_of_record, record_of_tree}
use Rattle.layout.specs.Layout.{Meant}
use Rattle.why_no_word.specs.Answer.{counts_of, Answers}
use Rattle.why_no_word.specs.declared.Letters.{Letters}
use Rattle.spelling.specs.Spells.{Spells}
use Rattle.table.specs.Opening.{Opens}
use Rattle.long_line.specs.Held.{SomeBytes, AllOrLong}
use Rattle.output.specs.Queue.{Waiting, TextPut}
use Rattle.answers.specs.Lines.{word_line, bytes_line}
use Rattle.respond.specs.Response.{of_stream, reply_to, letters_line, given_line, Responds, not_hex, Answered, line_answer}
use Rattle.respond.specs.declared.Asked.{Asked}
use Rattle.respond.specs.declared.Asked.TheVariants as asked

-- A word that was found: its line is that of its letters in the room.
pub word_responds : (a : Reply (List ℕ)) (R R' : List ℕ) (O O' : Waiting) (v : List ℕ) (f : Reply Letters) (l : Letters) → f ≡ given l → Answers a R R' f
    → v ≡ take l.length R' → TextPut (word_line l.terms v) O O' → Responds letters_line a O O' 0
word_responds (given w) R R' O O' v f l i h d q =
    let g = given_injective _ _ (sym (ap (mapped counts_of) i) ∙ h.answer) in
    let e : l.length ≡ length w = ap (λ x. x.length) g in
    let t : l.terms ≡ terms w = ap (λ x. x.terms) g in
    let s : v ≡ w = d ∙ ap (λ (j : ℕ). take j R') e ∙ ap (take (length w)) h.room ∙ take-append_seam w (drop (length w) R) in
    record { line = subst (λ (x : List ℕ). TextPut x O O') (ap (word_line l.terms) s ∙ ap (λ (j : ℕ). word_line j w) t) q; counted = refl }
word_responds (refusal x) R R' O O' v f l i h d q = absurd (given_refused _ x.number x.place (sym (ap (mapped counts_of) i) ∙ h.answer))

-- A refusal of such a call.
pub refusal_responds : (a : Reply (List ℕ)) (R R' : List ℕ) (O O' : Waiting) (f : Reply Letters) (e : No) (r : ℕ) → f ≡ refusal e
    → Answers a R R' f
    → ((text : List ℕ → List ℕ) → Responds text (refusal e) O O' r) → Responds letters_line a O O' r
refusal_responds (given w) R R' O O' f e r i h q = absurd (given_refused _ e.number e.place (sym h.answer ∙ ap (mapped counts_of) i))
refusal_responds (refusal x) R R' O O' f e r i h q =
    subst (λ (y : No). Responds letters_line (refusal y) O O' r) (refusal_injective _ _ (sym (ap (mapped counts_of) i) ∙ h.answer)) (q letters_line)

-- Bytes that were written to the front of the room, behind their name.
pub bytes_respond : (name : List ℕ) (a : Reply (List ℕ)) (R R' : List ℕ) (O O' : Waiting) (v : List ℕ) (f : Reply ℕ) (n : ℕ) → f ≡ given n
    → Spells a R R' f → v ≡ take n R' → TextPut (bytes_line name v) O O' → Responds (bytes_line name) a O O' 0
bytes_respond name (given w) R R' O O' v f n i h d q =
    let e : n ≡ length w = given_injective _ _ (sym i ∙ h.answer) in
    let s : v ≡ w = d ∙ ap (λ (j : ℕ). take j R') e ∙ ap (take (length w)) h.room ∙ take-append_seam w (drop (length w) R) in
    record { line = subst (λ (x : List ℕ). TextPut x O O') (ap (bytes_line name) s) q; counted = refl }
bytes_respond name (refusal x) R R' O O' v f n i h d q =
    absurd (given_refused _ x.number x.place (sym i ∙ h.answer))

-- A refusal of such a call.
pub bytes_refused : (name : List ℕ) (a : Reply (List ℕ)) (R R' : List ℕ) (O O' : Waiting) (f : Reply ℕ) (e : No) (r : ℕ) → f ≡ refusal e
    → Spells a R R' f
    → ((text : List ℕ → List ℕ) → Responds text (refusal e) O O' r) → Responds (bytes_line name) a O O' r
bytes_refused name (given w) R R' O O' f e r i h q = absurd (given_refused _ e.number e.place (sym h.answer ∙ i))
bytes_refused name (refusal x) R R' O O' f e r i h q =
    subst (λ (y : No). Responds (bytes_line name) (refusal y) O O' r) (refusal_injective _ _ (sym i ∙ h.answer)) (q (bytes_line name))

-- The same answer, said otherwise.
pub responds_as : {text : List ℕ → List ℕ} {a b : Reply (List ℕ)} {O O' : Waiting} {r : ℕ} → a ≡ b → Responds text a O O' r
    → Responds text b O O' r
responds_as {text} {a} {b} {O} {O'} {r} e q = subst (λ (z : Reply (List ℕ)). Responds text z O O' r) e q

-- What is asked for, in its case.
pub asked_as : (M : Table) (bs : List ℕ) (room : ℕ) {k j : Asked} {O O' : Waiting} {r : ℕ} → k ≡ j
    → Responds (given_line j) (reply_to j M bs room) O O' r
    → Responds (given_line k) (reply_to k M bs room) O O' r
asked_as M bs room {k} {j} {O} {O'} {r} e q = subst (λ (i : Asked). Responds (given_line i) (reply_to i M bs room) O O' r) (sym e) q

-- ---- bytes that are too many for a tree

-- As a tree they have no word.
six : (M : Table) (xs : List ℕ) (room : ℕ) → tree_most < length xs → word_into M xs room ≡ refused 6 0
unfolding word_into word_on
six M xs room h = rw (tree_long M.arities xs h)

-- Nor are they a record's image.
list_or_six : (M : Table) (xs : List ℕ) (room : ℕ) → tree_most < length xs
    → into room (record_of_tree M xs) ≡ into room (last_symbol M.arities then λ a. refused 6 0)
unfolding record_of_tree record_of
list_or_six M xs room h = rw (tree_long M.arities xs h)

-- Others that are too many get the same answer as trees.
many_same : (k : Asked) (M : Table) (bs v : List ℕ) (room : ℕ) → of_stream k ≡ false → tree_most < length v → tree_most < length bs
    → reply_to k M v room ≡ reply_to k M bs room
many_same asked.Word M bs v room e h m = six M v room h ∙ sym (six M bs room m)
many_same asked.RecordWord M bs v room e h m = absurd (true≢false e)
many_same asked.RecordTree M bs v room e h m = absurd (true≢false e)
many_same asked.TreeRecord M bs v room e h m = list_or_six M v room h ∙ sym (list_or_six M bs room m)

-- A stream is long where some of its bytes are held no more.
pub long_stream : (k : Asked) (past : ℕ) → (of_stream k && ltb 0 past) ≡ true → (of_stream k ≡ true) × (0 < past)
long_stream asked.Word past e = absurd (true≢false (sym e))
long_stream asked.RecordWord past e = (refl, ltb-true 0 past e)
long_stream asked.RecordTree past e = (refl, ltb-true 0 past e)
long_stream asked.TreeRecord past e = absurd (true≢false (sym e))

-- Any other line is a tree, or held.
short_or_tree : (k : Asked) (past : ℕ) → (of_stream k && ltb 0 past) ≡ false → 0 < past → of_stream k ≡ false
short_or_tree asked.Word past e h = refl
short_or_tree asked.RecordWord past e h = sym (lt-ltb 0 past h) ∙ e
short_or_tree asked.RecordTree past e h = sym (lt-ltb 0 past h) ∙ e
short_or_tree asked.TreeRecord past e h = refl

-- So what is lent of it gets the answer of all its bytes.
pub held_same : (k : Asked) (M : Table) (bs v : List ℕ) (past room : ℕ) → AllOrLong bs v past → (of_stream k && ltb 0 past) ≡ false
    → reply_to k M v room ≡ reply_to k M bs room
held_same k M bs v zero room h e = ap (λ (x : List ℕ). reply_to k M x room) (h.all refl)
held_same k M bs v (suc past) room h e =
    let some_past : 0 < suc past = omega arith in
    let m = h.many some_past in
    many_same k M bs v room (short_or_tree k (suc past) e some_past) m.0 m.1

-- The refusal of reading a stream and its image as a tree is that of the word call, and of the tree call.
word_refused : (M : Table) (s : List ℕ) (room : ℕ) (x : No) → (spelled M.arities s then read_tree M.arities) ≡ refusal x
    → into room (word_of_record M s) ≡ refusal x
unfolding word_of_record word_on
word_refused M s room x e = go (spelled M.arities s) e
  where
    go : (o : Reply (List ℕ)) → (o then read_tree M.arities) ≡ refusal x → into room (o then λ bs. read_tree M.arities bs then word_in M) ≡ refusal x
    go (given bs) f = ap (λ (t : Reply Tree). into room (t then word_in M)) f
    go (refusal y) f = ap refusal (refusal_injective _ _ f)

tree_refused : (M : Table) (s : List ℕ) (room : ℕ) (x : No) → (spelled M.arities s then read_tree M.arities) ≡ refusal x
    → into room (tree_of_record M s) ≡ refusal x
unfolding tree_of_record tree_of
tree_refused M s room x e = go (spelled M.arities s) e
  where
    go : (o : Reply (List ℕ)) → (o then read_tree M.arities) ≡ refusal x
        → into room (o then λ bs. read_tree M.arities bs then λ t. given bs) ≡ refusal x
    go (given bs) f = ap (λ (t : Reply Tree). into room (t then λ z. given bs)) f
    go (refusal y) f = ap refusal (refusal_injective _ _ f)

-- So it is the answer to a stream.
pub stream_refused : (k : Asked) (M : Table) (s : List ℕ) (room : ℕ) (x : No) → of_stream k ≡ true
    → (spelled M.arities s then read_tree M.arities) ≡ refusal x → refusal x ≡ reply_to k M s room
stream_refused asked.Word M s room x e f = absurd (true≢false (sym e))
stream_refused asked.RecordWord M s room x e f = sym (word_refused M s room x f)
stream_refused asked.RecordTree M s room x e f = sym (tree_refused M s room x f)
stream_refused asked.TreeRecord M s room x e f = absurd (true≢false (sym e))

-- ---- lines

-- A line that is not hexadecimal.
pub strange_answered : (k : Asked) (cs : List ℕ) (O O' : Waiting) (t : Reply Table) (b : Bool) (room : ℕ) → Told (SomeBytes cs) b → b ≡ false
    → TextPut not_hex O O' → Answered k t (bytes_of cs) room O O' 25
strange_answered k cs O O' t b room told e q = go (bytes_of cs) refl
  where
    go : (o : Option (List ℕ)) → bytes_of cs ≡ o → Answered k t o room O O' 25
    go none f = record { line = q; counted = refl }
    go (some bs) f = absurd (told.if_false e (bs, f))

-- A line of hexadecimal under an opened table.
pub table_answered : (k : Asked) (cs F I : List ℕ) (O O' : Waiting) (t : Reply Table) (o : Reply (Unit {0})) (b : Bool) (room : ℕ) (r : ℕ) → o ≡ (given tt)
    → Opens F I t o → Told (SomeBytes cs) b → b ≡ true
    → ((bs : List ℕ) → bytes_of cs ≡ some bs → Meant F I (λ M. Responds (given_line k) (reply_to k M bs room) O O' r))
    → Answered k t (bytes_of cs) room O O' r
table_answered k cs F I O O' t o b room r i s told e f = go t (subst (Opens F I t) i s) (told.if_true e)
  where
    go : (t : Reply Table) → Opens F I t (given tt) → SomeBytes cs → Answered k t (bytes_of cs) room O O' r
    go (given M) p w = rw w.1 (f w.0 w.1 M p)
    go (refusal x) p w = absurd p

-- A line of hexadecimal under a table that was refused.
pub refused_answered : (k : Asked) (cs F I : List ℕ) (O O' : Waiting) (t : Reply Table) (o : Reply (Unit {0})) (e : No) (b : Bool) (room : ℕ) (r : ℕ)
    → o ≡ refusal e → Opens F I t o → Told (SomeBytes cs) b → b ≡ true
    → ((text : List ℕ → List ℕ) → Responds text (refusal e) O O' r) → Answered k t (bytes_of cs) room O O' r
refused_answered k cs F I O O' t o e b room r i s told y q = go t (subst (Opens F I t) i s) (told.if_true y)
  where
    go : (t : Reply Table) → Opens F I t (refusal e) → SomeBytes cs → Answered k t (bytes_of cs) room O O' r
    go (given M) p w = absurd p
    go (refusal x) d w = rw w.1 (subst (λ (y : No). Responds (given_line k) (refusal y) O O' r) d (q (given_line k)))

-- What was put for a line is its answer.
pub answered_line : (k : Asked) (t : Reply Table) (room : ℕ) (cs : List ℕ) (O O' : Waiting) (s : ℕ) → Answered k t (bytes_of cs) room O O' s
    → TextPut (line_answer k t room cs) O O'
unfolding line_answer
answered_line k t room cs O O' s a = go (bytes_of cs) refl a
  where
    go : (o : Option (List ℕ)) → bytes_of cs ≡ o → Answered k t o room O O' s → TextPut (line_answer k t room cs) O O'
    go none e b = rw (e, line_answer) b.line
    go (some bs) e b = rw (e, line_answer) b.line
