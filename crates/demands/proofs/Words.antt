-- Demand 2, the word: it is given exactly when the published definition gives it within the limits, and refused exactly for the
-- listed causes. Assumes nothing.
use mathlib.Core.Path.{◌≡◌, refl, sym, ◌∙◌, ap₂}
use mathlib.Core.List.{List}
use mathlib.Core.Logic.{◌⊎◌, inl, inr, ◌↔◌}
use Prim.Native.Nat.{ℕ, ◌≤◌}
use native.Mathlib.Omega.{arith}
use Rattle.words.specs.Word.{Word}
use Rattle.words.specs.Reply.{Reply, given, refusal, refused}
use Rattle.words.proofs.Replies.{given_refused, refused_injective}
use Rattle.machine.specs.Machine.{Tree, Table}
use Rattle.text.specs.Reading.{read_table}
use Rattle.text.proofs.Back.{read_limited}
use Rattle.text.proofs.Refusals.{read_refused}
use Rattle.trees.specs.Shape.{read_tree}
use Rattle.trees.specs.Causes.{Cause}
use Rattle.trees.proofs.Preorder.{preorder_some}
use Rattle.trees.proofs.Whole.{read_sound, read_complete}
use Rattle.trees.proofs.Refusals.{cause_number}
use Rattle.promises.specs.Word.{word_on, word_answer}
use Rattle.promises.proofs.Room.{TooLong}
use Rattle.promises.proofs.Word.{NoRule, on_given, on_refused, answer_text, answer_table, word_given, word_refused}
use Rattle.demands.specs.Words.{Asked, WordGiven, RoomLacking, RuleLacking, ShapeWrong}
use Rattle.demands.specs.Words.{WordRefused, text_wrong, shape_wrong, rule_lacking, room_lacking}

-- ---- the tree that is asked for

-- A text and bytes that are read as M and t ask for t under M.
asked : (text tree : List ℕ) (M : Table) (t : Tree) → read_table text ≡ given M → read_tree M.arities tree ≡ given t → Asked text tree M t
asked text tree M t e r =
    let s = read_sound M.arities tree t r in
    record { read = e; bytes = s.0; ranked = s.1; some = rw s.0 (preorder_some t); most = s.3; levels = s.2 }

-- And the other way round.
asked_tree : (text tree : List ℕ) (M : Table) (t : Tree) → Asked text tree M t → read_tree M.arities tree ≡ given t
asked_tree text tree M t a = read_complete M.arities tree t a.bytes a.ranked a.levels a.most

-- ---- a word

module _ (text tree : List ℕ) (room : ℕ) where
  -- A word that is given is the published one.
  word_there : (w : Word) → word_answer text tree room ≡ given w → WordGiven text tree room w
  word_there w e = go (read_table text) refl
    where
      go : (a : Reply Table) → read_table text ≡ a → WordGiven text tree room w
      go (refusal x) i = absurd (given_refused w x.number x.place (sym e ∙ answer_text text tree room x.number x.place i))
      go (given M) i =
          let j = (word_given M tree room w).0 (sym (answer_table text tree room M i) ∙ e) in
          let k = (on_given M tree w).0 j.0 in
          record { table = M; of = k.0; asked = asked text tree M k.0 i k.1; word = k.2; fits = j.1 }

  -- The published one is given.
  word_back : (w : Word) → WordGiven text tree room w → word_answer text tree room ≡ given w
  word_back w h =
      answer_table text tree room h.table h.asked.read ∙
      (word_given h.table tree room w).1
      ((on_given h.table tree w).1 (h.of, asked_tree text tree h.table h.of h.asked, h.word), h.fits)

  -- The word is given exactly when the published definition gives it within the limits, and it has room.
  pub word_published : (w : Word) → (word_answer text tree room ≡ given w) ↔ WordGiven text tree room w
  word_published w = (word_there w, word_back w)

  -- ---- a refusal

  -- A refusal has its cause.
  refused_there : (n p : ℕ) → word_answer text tree room ≡ refused n p → WordRefused text tree room n p
  refused_there n p e = go (read_table text) refl
    where
      on_tree : (M : Table) → read_table text ≡ given M → Cause M.arities tree n p ⊎ NoRule M tree n p → WordRefused text tree room n p
      on_tree M i (inl c) = shape_wrong (record { table = M; read = i; cause = c })
      on_tree M i (inr h) =
          rule_lacking h.number (record { table = M; of = h.tree; asked = asked text tree M h.tree i h.read; first = h.first })

      on_room : (M : Table) → read_table text ≡ given M → (word_on M tree ≡ refused n p) ⊎ TooLong room (word_on M tree) n p
          → WordRefused text tree room n p
      on_room M i (inl j) = on_tree M i ((on_refused M (read_limited text M i).made tree n p).0 j)
      on_room M i (inr l) =
          let k = (on_given M tree l.out).0 l.there in
          room_lacking l.number
          (record {
            table = M;
            of = k.0;
            asked = asked text tree M k.0 i k.1;
            letters = l.out;
            word = k.2;
            needed = l.place;
            short = omega (arith, l.longer, l.place);
          })

      go : (a : Reply Table) → read_table text ≡ a → WordRefused text tree room n p
      go (refusal x) i =
          let j = refused_injective {A = Word} x.number x.place n p (sym (answer_text text tree room x.number x.place i) ∙ e) in
          text_wrong (i ∙ ap₂ (λ (m : ℕ) (r : ℕ). refused m r) (sym j.0) (sym j.1))
      go (given M) i = on_room M i ((word_refused M tree room n p).0 (sym (answer_table text tree room M i) ∙ e))

  -- A cause is told.
  refused_back : (n p : ℕ) → WordRefused text tree room n p → word_answer text tree room ≡ refused n p
  refused_back n p (text_wrong e) = answer_text text tree room n p e
  refused_back n p (shape_wrong h) =
      let M = h.table in
      answer_table text tree room M h.read ∙
      (word_refused M tree room n p).1 (inl ((on_refused M (read_limited text M h.read).made tree n p).1 (inl h.cause)))
  refused_back n p (rule_lacking e h) =
      let M = h.table in
      let r = h.asked.read in
      let l : NoRule M tree n p = record { tree = h.of; read = asked_tree text tree M h.of h.asked; number = e; first = h.first } in
      answer_table text tree room M r ∙
      (word_refused M tree room n p).1
      (inl ((on_refused M (read_limited text M r).made tree n p).1 (inr l)))
  refused_back n p (room_lacking e h) =
      let M = h.table in
      let g = (on_given M tree h.letters).1 (h.of, asked_tree text tree M h.of h.asked, h.word) in
      answer_table text tree room M h.asked.read ∙
      (word_refused M tree room n p).1
      (inr (record { out = h.letters; there = g; longer = omega (arith, h.short, h.needed); number = e; place = h.needed }))

  -- The word call refuses exactly for the listed causes.
  pub word_turned_down : (n p : ℕ) → (word_answer text tree room ≡ refused n p) ↔ WordRefused text tree room n p
  word_turned_down n p = (refused_there n p, refused_back n p)

  -- Numbers 1 to 5 are told exactly as reading the text tells them.
  pub text_published : (n p : ℕ) → n ≤ 5 → (word_answer text tree room ≡ refused n p) ↔ (read_table text ≡ refused n p)
  text_published n p l = (λ e. go (refused_there n p e), λ e. refused_back n p (text_wrong e))
    where
      go : WordRefused text tree room n p → read_table text ≡ refused n p
      go (text_wrong e) = e
      go (shape_wrong h) = absurd (omega (arith, (cause_number h.cause).0))
      go (rule_lacking e h) = absurd (omega arith)
      go (room_lacking e h) = absurd (omega arith)

  -- Numbers 6, 7, 8, 10 and 11 are told exactly for their cause in the shape.
  pub shape_published : (n p : ℕ) → 6 ≤ n → n ≤ 11 → (n ≡ 9 → ⊥) → (word_answer text tree room ≡ refused n p) ↔ ShapeWrong text tree n p
  shape_published n p l m d = (λ e. go (refused_there n p e), λ h. refused_back n p (shape_wrong h))
    where
      go : WordRefused text tree room n p → ShapeWrong text tree n p
      go (text_wrong e) = absurd (omega (arith, (read_refused text n p e).1))
      go (shape_wrong h) = h
      go (rule_lacking e h) = absurd (d e)
      go (room_lacking e h) = absurd (omega arith)

  -- Number 9 is told exactly at the first position without a rule.
  pub nine_published : (p : ℕ) → (word_answer text tree room ≡ refused 9 p) ↔ RuleLacking text tree p
  nine_published p = (λ e. go (refused_there 9 p e), λ h. refused_back 9 p (rule_lacking refl h))
    where
      go : WordRefused text tree room 9 p → RuleLacking text tree p
      go (text_wrong e) = absurd (omega (arith, (read_refused text 9 p e).1))
      go (shape_wrong h) = absurd ((cause_number h.cause).2 refl)
      go (rule_lacking e h) = h
      go (room_lacking e h) = absurd (omega arith)

  -- Number 12 is told exactly where the published word is longer than the room, with its length.
  pub twelve_published : (n : ℕ) → (word_answer text tree room ≡ refused 12 n) ↔ RoomLacking text tree room n
  twelve_published n = (λ e. go (refused_there 12 n e), λ h. refused_back 12 n (room_lacking refl h))
    where
      go : WordRefused text tree room 12 n → RoomLacking text tree room n
      go (text_wrong e) = absurd (omega (arith, (read_refused text 12 n e).1))
      go (shape_wrong h) = absurd (omega (arith, (cause_number h.cause).1))
      go (rule_lacking e h) = absurd (omega arith)
      go (room_lacking e h) = h
