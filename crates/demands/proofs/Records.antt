-- W1, records, as theorems about texts: the word of a record is the published word of its image; tree and record of each other.
-- Assumes nothing.
use mathlib.Core.Path.{◌≡◌, refl, sym, ap, subst, ◌∙◌}
use mathlib.Core.List.{List}
use mathlib.Core.Logic.{◌⊎◌, inl, inr, ⊎_elim, ◌↔◌}
use Prim.Native.Nat.{ℕ, ◌≤◌}
use native.Mathlib.Omega.{arith}
use lib.ListN.{length}
use Rattle.words.specs.Word.{Word}
use Rattle.words.specs.Reply.{Reply, given, refusal, refused, ◌then◌}
use Rattle.words.proofs.Replies.{given_refused, given_injective, refused_injective, then_given, then_refused}
use Rattle.machine.specs.Machine.{Tree, Table}
use Rattle.text.specs.Reading.{read_table}
use Rattle.text.proofs.Back.{read_limited}
use Rattle.text.proofs.Refusals.{read_refused as text-refusals}
use Rattle.trees.specs.Preorder.{preorder}
use Rattle.trees.specs.Shape.{read_tree}
use Rattle.trees.proofs.Refusals.{refused_cause, cause_refused, cause_number}
use Rattle.records.specs.Records.{Element, bytes_of, image}
use Rattle.records.specs.Symbols.{last_symbol}
use Rattle.records.specs.Back.{back as back'}
use Rattle.records.specs.Calls.{spelled, tree_of, record_of}
use Rattle.records.proofs.Symbols.{last_given, last_refused}
use Rattle.records.proofs.Refusals.{read_refused}
use Rattle.records.proofs.Calls.{spelled_as, as_spelled, spelled_refused, tree_record, record_tree, tree_given, record_none}
use Rattle.records.proofs.Calls.{TreeCause, stream, long, deep, tree_refused}
use Rattle.records.proofs.Ranked.{image_refused}
use Rattle.records.specs.Causes.{strange, stray, unended, again}
use Rattle.promises.specs.Word.{word_on, word_answer}
use Rattle.promises.specs.Records.{word_of_record, tree_of_record, record_of_tree, on_table, on_text}
use Rattle.promises.proofs.Room.{TooLong, into_refused}
use Rattle.promises.proofs.Word.{answer_table, on_refused, word_refused}
use Rattle.promises.proofs.Records.{text_table, text_given, text_refused, text_no, word_spelled, word_unspelled}
use Rattle.demands.specs.Records.{Sent, SendingWrong, text_wrong, symbols_wrong, stream_wrong, ImageGiven, ImageOfNone}

-- ---- what is sent

-- A table that is read has at most 64 symbols.
few : (text : List ℕ) (M : Table) → read_table text ≡ given M → length M.arities ≤ 256
few text M e = omega (arith, (read_limited text M e).symbols)

-- A record that is sent is spelled as its image, and the other way round.
sent_spelled : (text s : List ℕ) (M : Table) (a : ℕ) (r : Element) → Sent text s M a r → spelled M.arities s ≡ given (preorder (image a r))
sent_spelled text s M a r h =
    as_spelled M.arities (few text M h.read) s (preorder (image a r)) a r
    (record { symbols = h.symbols; labels = h.labels; stream = h.bytes; image = refl })

spelled_sent : (text s bs : List ℕ) (M : Table) → read_table text ≡ given M → spelled M.arities s ≡ given bs
    → (a : ℕ) × (r : Element) × Sent text s M a r × (bs ≡ preorder (image a r))
spelled_sent text s bs M e k =
    let h = spelled_as M.arities s bs k in
    (h.0, h.1, record { read = e; symbols = h.2.symbols; labels = h.2.labels; bytes = h.2.stream }, h.2.image)

-- What is not spelled is sent wrong, and the other way round.
unspelled_wrong : (text s : List ℕ) (M : Table) (n p : ℕ) → read_table text ≡ given M → spelled M.arities s ≡ refused n p → SendingWrong text s n p
unspelled_wrong text s M n p e k =
    ⊎_elim
    (λ i. let w = (last_refused M.arities n p (read_limited text M e).some_symbol).0 i in symbols_wrong M e w.0 w.1)
    (λ i. let S = (last_given M.arities i.0).0 i.1 in
    let m : i.0 ≤ 255 = omega (arith, S.many, few text M e) in
    stream_wrong M i.0 e S ((read_refused i.0 m s n p).0 i.2))
    ((spelled_refused M.arities s n p).0 k)

wrong_unspelled : (text s : List ℕ) (n p : ℕ) → SendingWrong text s n p
    → (read_table text ≡ refused n p) ⊎ ((M : Table) × (read_table text ≡ given M) × (spelled M.arities s ≡ refused n p))
wrong_unspelled text s n p (text_wrong e) = inl e
wrong_unspelled text s n p (symbols_wrong M e i w) =
    inr (M, e, (spelled_refused M.arities s n p).1 (inl ((last_refused M.arities n p (read_limited text M e).some_symbol).1 (i, w))))
wrong_unspelled text s n p (stream_wrong M a e S c) =
    let m : a ≤ 255 = omega (arith, S.many, few text M e) in
    inr (M, e, (spelled_refused M.arities s n p).1 (inr (a, (last_given M.arities a).1 S, (read_refused a m s n p).1 c)))

-- ---- the word of a record

module _ (text s : List ℕ) (room : ℕ) where
  -- The word of a record that is sent is that of its image, refusals included: demand 2 speaks of it.
  pub record_word : (M : Table) (a : ℕ) (r : Element) → Sent text s M a r
      → on_text word_of_record text s room ≡ word_answer text (preorder (image a r)) room
  record_word M a r h =
      text_table word_of_record text s room M h.read ∙ word_spelled M s (preorder (image a r)) room (sent_spelled text s M a r h)
      ∙ sym (answer_table text (preorder (image a r)) room M h.read)

  -- What is sent wrong is refused for that.
  pub record_wrong : (n p : ℕ) → SendingWrong text s n p → on_text word_of_record text s room ≡ refused n p
  record_wrong n p h =
      ⊎_elim (λ e. text_no word_of_record text s room n p e)
      (λ i. text_table word_of_record text s room i.0 i.1 ∙ word_unspelled i.0 s room n p i.2)
      (wrong_unspelled text s n p h)

  -- Every stream is one or the other.
  pub sent_or_wrong : ((M : Table) × (a : ℕ) × (r : Element) × Sent text s M a r) ⊎ ((n : ℕ) × (p : ℕ) × SendingWrong text s n p)
  sent_or_wrong = go (read_table text) refl
    where
      stream : (M : Table) → read_table text ≡ given M → (o : Reply (List ℕ)) → spelled M.arities s ≡ o
          → ((M : Table) × (a : ℕ) × (r : Element) × Sent text s M a r) ⊎ ((n : ℕ) × (p : ℕ) × SendingWrong text s n p)
      stream M e (given bs) i = let h = spelled_sent text s bs M e i in inl (M, h.0, h.1, h.2)
      stream M e (refusal x) i = inr (x.number, x.place, unspelled_wrong text s M x.number x.place e i)

      go : (a : Reply Table) → read_table text ≡ a
          → ((M : Table) × (a : ℕ) × (r : Element) × Sent text s M a r) ⊎ ((n : ℕ) × (p : ℕ) × SendingWrong text s n p)
      go (given M) e = stream M e (spelled M.arities s) refl
      go (refusal x) e = inr (x.number, x.place, text_wrong e)

  -- ---- the tree of a record

  -- The tree is given exactly where the image is within the limits, and it has room.
  pub record_tree_given : (bs : List ℕ) → (on_text tree_of_record text s room ≡ given bs) ↔ ImageGiven text s room bs
  unfolding tree_of_record tree_of
  record_tree_given bs = (there, back)
    where
      there : on_text tree_of_record text s room ≡ given bs → ImageGiven text s room bs
      there e =
          let i = (text_given tree_of_record text s room bs).0 e in
          let j = then_given (spelled i.0.arities s) _ bs i.2 in
          let k = then_given (read_tree i.0.arities j.0) _ bs j.2 in
          let x : j.0 ≡ bs = given_injective j.0 bs k.2 in
          let h = spelled_sent text s j.0 i.0 i.1 j.1 in
          let y = sym x ∙ h.3 in
          let z : tree_of i.0.arities (bytes_of h.1) ≡ given (preorder (image h.0 h.1)) =
          ap (tree_of i.0.arities) (sym h.2.bytes) ∙ i.2 ∙ ap (λ (q : List ℕ). given q) y in
          let l = (tree_given i.0.arities (few text i.0 i.1) h.0 h.1 h.2.symbols h.2.labels).0 z in
          record { table = i.0; last = h.0; of = h.1; sent = h.2; image = y; levels = l.0; elements = l.1; fits = i.3 }

      back : ImageGiven text s room bs → on_text tree_of_record text s room ≡ given bs
      back g =
          let M = g.table in
          let z = (tree_given M.arities (few text M g.sent.read) g.last g.of g.sent.symbols g.sent.labels).1 (g.levels, g.elements) in
          (text_given tree_of_record text s room bs).1
          (M, g.sent.read, ap (tree_of M.arities) g.sent.bytes ∙ z ∙ ap (λ (q : List ℕ). given q) (sym g.image), g.fits)

-- ---- 7, 8 and 11 cannot come

-- None of these three numbers.
abbrev pub NoBadShape : ℕ → Type 0
NoBadShape n = (n ≡ 7 → ⊥) × (n ≡ 8 → ⊥) × (n ≡ 11 → ⊥)

-- What is sent wrong has number 1 to 5 or 20 to 23.
wrong_number : {text s : List ℕ} {n p : ℕ} → SendingWrong text s n p → NoBadShape n
wrong_number {text} {s} {n} {p} (text_wrong e) =
    let i = text-refusals text n p e in
    (λ z. omega (arith, i.1), λ z. omega (arith, i.1), λ z. omega (arith, i.1))
wrong_number (symbols_wrong M e i w) = (λ z. omega arith, λ z. omega arith, λ z. omega arith)
wrong_number (stream_wrong M a e S (strange i t f b rest j k l h)) = (λ z. omega arith, λ z. omega arith, λ z. omega arith)
wrong_number (stream_wrong M a e S (stray i t f h rest j k)) = (λ z. omega arith, λ z. omega arith, λ z. omega arith)
wrong_number (stream_wrong M a e S (unended i os f j k)) = (λ z. omega arith, λ z. omega arith, λ z. omega arith)
wrong_number (stream_wrong M a e S (again i r f l rest h j k)) = (λ z. omega arith, λ z. omega arith, λ z. omega arith)

-- An image is refused as a tree with 6 or 10.
image_number : (text s : List ℕ) (M : Table) (a : ℕ) (r : Element) (n p : ℕ) → Sent text s M a r
    → read_tree M.arities (preorder (image a r)) ≡ refused n p → NoBadShape n
image_number text s M a r n p h e =
    ⊎_elim (λ c. (λ z. omega (arith, c.0), λ z. omega (arith, c.0), λ z. omega (arith, c.0)))
    (λ c. (λ z. omega (arith, c), λ z. omega (arith, c), λ z. omega (arith, c)))
    (image_refused M.arities a h.symbols r n p h.labels e)

module _ (text s : List ℕ) (room n p : ℕ) where
  -- The word call on records never tells them.
  pub record_word_numbers : on_text word_of_record text s room ≡ refused n p → NoBadShape n
  record_word_numbers e = go (sent_or_wrong text s room)
    where
      on_image : (M : Table) (a : ℕ) (r : Element) → Sent text s M a r
          → (word_on M (preorder (image a r)) ≡ refused n p) ⊎ TooLong room (word_on M (preorder (image a r))) n p → NoBadShape n
      on_image M a r h (inl k) =
          ⊎_elim (λ c. image_number text s M a r n p h (cause_refused M.arities (preorder (image a r)) n p c))
          (λ c. (λ z. omega (arith, c.number), λ z. omega (arith, c.number), λ z. omega (arith, c.number)))
          ((on_refused M (read_limited text M h.read).made (preorder (image a r)) n p).0 k)
      on_image M a r h (inr l) = (λ z. omega (arith, l.number), λ z. omega (arith, l.number), λ z. omega (arith, l.number))

      go : ((M : Table) × (a : ℕ) × (r : Element) × Sent text s M a r) ⊎ ((x : ℕ) × (q : ℕ) × SendingWrong text s x q) → NoBadShape n
      go (inl h) =
          on_image h.0 h.1 h.2 h.3
          ((word_refused h.0 (preorder (image h.1 h.2)) room n p).0
          (sym (answer_table text (preorder (image h.1 h.2)) room h.0 h.3.read) ∙ sym (record_word text s room h.0 h.1 h.2 h.3) ∙ e))
      go (inr h) =
          let i = refused_injective {A = Word} h.0 h.1 n p (sym (record_wrong text s room h.0 h.1 h.2) ∙ e) in
          subst NoBadShape (sym i.0) (wrong_number h.2)

  -- Nor does the tree call.
  pub record_tree_numbers : on_text tree_of_record text s room ≡ refused n p → NoBadShape n
  unfolding tree_of_record
  record_tree_numbers e = go ((text_refused tree_of_record text s room n p).0 e)
    where
      on_cause : (M : Table) → read_table text ≡ given M → TreeCause M.arities s n p → NoBadShape n
      on_cause M i (stream k) = wrong_number (unspelled_wrong text s M n p i k)
      on_cause M i (long bs k c d m) = (λ z. omega (arith, c), λ z. omega (arith, c), λ z. omega (arith, c))
      on_cause M i (deep bs k c d) = (λ z. omega (arith, c), λ z. omega (arith, c), λ z. omega (arith, c))

      go : (read_table text ≡ refused n p) ⊎ ((M : Table) × (read_table text ≡ given M) × (on_table tree_of_record M s room ≡ refused n p)) → NoBadShape n
      go (inl i) = wrong_number {text = text} {s = s} (text_wrong i)
      go (inr h) =
          ⊎_elim (λ k. on_cause h.0 h.1 (tree_refused h.0.arities s n p k))
          (λ l. (λ z. omega (arith, l.number), λ z. omega (arith, l.number), λ z. omega (arith, l.number)))
          ((into_refused room (tree_of_record h.0 s) n p).0 h.2)

-- ---- each undoes the other

-- What the tree call writes the record call turns back into the same bytes, where they have room.
pub tree_turned_back : (text s bs : List ℕ) (room room' : ℕ) → on_text tree_of_record text s room ≡ given bs → length s ≤ room'
    → on_text record_of_tree text bs room' ≡ given s
unfolding tree_of_record record_of_tree
tree_turned_back text s bs room room' e m =
    let i = (text_given tree_of_record text s room bs).0 e in
    (text_given record_of_tree text bs room' s).1 (i.0, i.1, tree_record i.0.arities (few text i.0 i.1) s bs i.2, m)

-- And the other way round.
pub record_turned_back : (text bs s : List ℕ) (room room' : ℕ) → on_text record_of_tree text bs room ≡ given s → length bs ≤ room'
    → on_text tree_of_record text s room' ≡ given bs
unfolding tree_of_record record_of_tree
record_turned_back text bs s room room' e m =
    let i = (text_given record_of_tree text bs room s).0 e in
    (text_given tree_of_record text s room' bs).1 (i.0, i.1, record_tree i.0.arities (few text i.0 i.1) bs s i.2, m)

-- ---- 24

-- 24 is told of a text and bytes exactly where these are a tree that is no record's image.
pub twenty_four : (text bs : List ℕ) (room : ℕ) → ((p : ℕ) × (on_text record_of_tree text bs room ≡ refused 24 p)) ↔ ImageOfNone text bs
unfolding record_of_tree record_of
twenty_four text bs room = (λ h. there h.0 ((text_refused record_of_tree text bs room 24 h.0).0 h.1), back)
  where
    end : Element → Reply (List ℕ)
    end r = given (bytes_of r)

    -- Of what is told behind the symbol list only a tree that is no image has number 24.
    on_tree : (M : Table) (p a : ℕ) → read_table text ≡ given M → last_symbol M.arities ≡ given a → record_of M.arities bs ≡ refused 24 p
        → (read_tree M.arities bs ≡ refused 24 p) ⊎ ((t : Tree) × (read_tree M.arities bs ≡ given t) × (back' a t ≡ refused 24 p))
        → ImageOfNone text bs
    on_tree M p a e l z (inl c) = absurd (omega (arith, cause_number (refused_cause M.arities bs 24 p c)))
    on_tree M p a e l z (inr c) =
        record {
          table = M;
          last = a;
          of = c.0;
          read = e;
          symbols = (last_given M.arities a).0 l;
          tree = c.1;
          none = (record_none M.arities bs a c.0 l c.1).0 (p, z);
        }

    on_list : (M : Table) (p : ℕ) → read_table text ≡ given M → record_of M.arities bs ≡ refused 24 p → ImageOfNone text bs
    on_list M p e z =
        ⊎_elim (λ i. absurd (omega (arith, ((last_refused M.arities 24 p (read_limited text M e).some_symbol).0 i).0)))
        (λ i. ⊎_elim (λ j. on_tree M p i.0 e i.1 z (then_refused (read_tree M.arities bs) (back' i.0) 24 p j))
        (λ j. absurd (given_refused _ 24 p j.2)) (then_refused (read_tree M.arities bs then back' i.0) end 24 p i.2))
        (then_refused (last_symbol M.arities) _ 24 p z)

    there : (p : ℕ)
        → (read_table text ≡ refused 24 p) ⊎ ((M : Table) × (read_table text ≡ given M) × (on_table record_of_tree M bs room ≡ refused 24 p)) → ImageOfNone text
        bs
    there p (inl e) = absurd (omega (arith, text-refusals text 24 p e))
    there p (inr h) =
        ⊎_elim (λ z. on_list h.0 p h.1 z) (λ l. absurd (omega (arith, l.number)))
        ((into_refused room (record_of_tree h.0 bs) 24 p).0 h.2)

    back : ImageOfNone text bs → (p : ℕ) × (on_text record_of_tree text bs room ≡ refused 24 p)
    back g =
        let M = g.table in
        let z = (record_none M.arities bs g.last g.of ((last_given M.arities g.last).1 g.symbols) g.tree).1 g.none in
        (z.0, (text_refused record_of_tree text bs room 24 z.0).1 (inr (M, g.read, (into_refused room (record_of_tree M bs) 24 z.0).1 (inl z.1))))
