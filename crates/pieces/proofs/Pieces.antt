-- Lines of characters that grow at their end, and their answers. Assumes nothing.
use mathlib.Core.Path.{◌≡◌, refl, sym, ap, subst, ◌∙◌}
use mathlib.Core.Bool.{Bool, true, false}
use mathlib.Core.List.{List, [], ◌∷◌, ◌++◌, append-nil, append_assoc}
use Prim.Native.Nat.{ℕ, suc, ◌+◌, ◌-◌, ◌*◌, ◌<◌, ◌≤◌}
use native.Mathlib.Omega.{arith}
use borrow.Author.Tests.{eqb-true}
use lib.Dec.{eqb}
use native.Mathlib.Numerals.{add-one}
use lib.ListN.{length, take, drop, get_or, length-append, length-take, length-drop}
use lib.Seq.{take_all, take-suc, take-add, get_or-take, get_or-drop}
use Rattle.words.specs.Reply.{Reply}
use Rattle.machine.specs.Machine.{Table}
use Rattle.text.specs.Lines.{Lines, behind, line, push, lines_of}
use Rattle.trees.specs.Shape.{tree_most}
use Rattle.table.specs.Opening.{Opens}
use Rattle.hexline.specs.SoFar.{LineHeld, UpToFeed}
use Rattle.hexline.specs.declared.SoFar.{SoFar}
use Rattle.hexline.proofs.Laws.{taken_inside}
use Rattle.long_line.specs.Held.{count_most, LongHeld}
use Rattle.long_line.specs.declared.LongLine.{LongLine}
use Rattle.long_line.proofs.Lines.{long_fed, long_wider}
use Rattle.output.specs.Queue.{Waiting, TextPut}
use Rattle.output.proofs.Queues.{put_none, put_as, put_then}
use Rattle.respond.specs.Response.{line_answer}
use Rattle.respond.specs.declared.Asked.{Asked}
use Rattle.pieces.specs.Piece.{FeedFree, answers_to, last_of, LinesAnswered, held_most, PieceSoFar}

-- Characters in front of lines.
unfoldable before : List ℕ → Lines → Lines
before [] m = m
before (c ∷ l) m = push c (before l m)

-- Lines behind lines.
unfoldable joined : Lines → Lines → Lines
joined (behind l) m = before l m
joined (line l ls) m = line l (joined ls m)

-- A character in front of both.
push_joined : (c : ℕ) (ls m : Lines) → push c (joined ls m) ≡ joined (push c ls) m
unfolding joined before
push_joined c (behind l) m = refl
push_joined c (line l ls) m = refl

-- The lines of characters one behind the other.
lines_append : (xs ys : List ℕ) → lines_of (xs ++ ys) ≡ joined (lines_of xs) (lines_of ys)
unfolding lines_of joined before
lines_append [] ys = refl
lines_append (x ∷ xs) ys = go (eqb x 0x0a) (lines_append xs ys)
  where
    go : (b : Bool) → lines_of (xs ++ ys) ≡ joined (lines_of xs) (lines_of ys)
        → elim b as (λ z. Lines) [ true ↦ line [] (lines_of (xs ++ ys)) | false ↦ push x (lines_of (xs ++ ys)) ]
        ≡ joined (elim b as (λ z. Lines) [ true ↦ line [] (lines_of xs) | false ↦ push x (lines_of xs) ]) (lines_of ys)
    go true e = ap (line []) e
    go false e = ap (push x) e ∙ push_joined x (lines_of xs) (lines_of ys)

-- Characters without a line feed are no whole line.
lines_none : (ys : List ℕ) → FeedFree ys → lines_of ys ≡ behind ys
unfolding lines_of
lines_none [] h = refl
lines_none (y ∷ ys) h = go (eqb y 0x0a) refl (lines_none ys (λ k i e. h (suc k) (omega arith) e))
  where
    go : (b : Bool) → eqb y 0x0a ≡ b → lines_of ys ≡ behind ys
        → elim b as (λ z. Lines) [ true ↦ line [] (lines_of ys) | false ↦ push y (lines_of ys) ] ≡ behind (y ∷ ys)
    go true e f = absurd (h 0 (omega arith) (eqb-true y 0x0a e))
    go false e f = ap (push y) f

-- Characters in front of what is no whole line.
before_behind : (l ys : List ℕ) → before l (behind ys) ≡ behind (l ++ ys)
unfolding before
before_behind [] ys = refl
before_behind (c ∷ l) ys = ap (push c) (before_behind l ys)

-- Characters in front of a line feed.
before_line : (l : List ℕ) → before l (line [] (behind [])) ≡ line l (behind [])
unfolding before
before_line [] = refl
before_line (c ∷ l) = ap (push c) (before_line l)

-- A character in front makes the last line longer by one at most.
push_last : (c : ℕ) (ls : Lines) → length (last_of (push c ls)) ≤ suc (length (last_of ls))
unfolding last_of
push_last c (behind l) = omega arith
push_last c (line l ls) = omega arith

-- The last line has no more characters than all lines.
last_most : (xs : List ℕ) → length (last_of (lines_of xs)) ≤ length xs
unfolding lines_of last_of
last_most [] = omega arith
last_most (x ∷ xs) = go (eqb x 0x0a) (last_most xs)
  where
    go : (b : Bool) → length (last_of (lines_of xs)) ≤ length xs
        → length (last_of (elim b as (λ z. Lines) [ true ↦ line [] (lines_of xs) | false ↦ push x (lines_of xs) ])) ≤ suc (length xs)
    go true h = omega arith
    go false h = omega (arith, push_last x (lines_of xs))

module _ (a : Asked) (F I : List ℕ) (t : Reply Table) (room : ℕ) where
  -- More characters of the last line.
  joined_behind : (ls : Lines) (ys : List ℕ)
      → (answers_to a t room (joined ls (behind ys)) ≡ answers_to a t room ls) × (last_of (joined ls (behind ys)) ≡ last_of ls ++ ys)
  unfolding joined answers_to last_of
  joined_behind (behind l) ys = (ap (answers_to a t room) (before_behind l ys), ap last_of (before_behind l ys))
  joined_behind (line l ls) ys =
      let i = joined_behind ls ys in
      (ap (λ (x : List ℕ). line_answer a t room l ++ x) i.0, i.1)

  -- The line feed of the last line.
  joined_feed : (ls : Lines)
      → (answers_to a t room (joined ls (line [] (behind []))) ≡ answers_to a t room ls ++ line_answer a t room (last_of ls))
      × (last_of (joined ls (line [] (behind []))) ≡ [])
  unfolding joined answers_to last_of
  joined_feed (behind l) = (ap (answers_to a t room) (before_line l) ∙ append-nil (line_answer a t room l), ap last_of (before_line l))
  joined_feed (line l ls) =
      let i = joined_feed ls in
      let e = sym (append_assoc (line_answer a t room l) (answers_to a t room ls) (line_answer a t room (last_of ls))) in
      (ap (λ (x : List ℕ). line_answer a t room l ++ x) i.0 ∙ e, i.1)

  -- More characters of the last line came.
  left_fed : (xs ys : List ℕ) (O O' : Waiting) (T T' : List ℕ) (k k' : ℕ) (l l' : LongLine) → LinesAnswered a F I t room (lines_of xs) O O' k T l → FeedFree ys
      → (LongHeld F I k (last_of (lines_of xs)) T l → LongHeld F I k' (last_of (lines_of xs) ++ ys) T' l')
      → LinesAnswered a F I t room (lines_of (xs ++ ys)) O O' k' T' l'
  left_fed xs ys O O' T T' k k' l l' s h f =
      let j = joined_behind (lines_of xs) ys in
      let e : lines_of (xs ++ ys) ≡ joined (lines_of xs) (behind ys) = lines_append xs ys ∙ ap (joined (lines_of xs)) (lines_none ys h) in
      record {
        answers = put_as (sym (ap (answers_to a t room) e ∙ j.0)) s.answers;
        held = subst (λ (x : List ℕ). LongHeld F I k' x T' l') (sym (ap last_of e ∙ j.1)) (f s.held);
      }

  -- The line feed of the last line came, and the line was answered.
  left_answered : (xs : List ℕ) (O O₁ O₂ : Waiting) (T T' : List ℕ) (k k' : ℕ) (l l' : LongLine) → LinesAnswered a F I t room (lines_of xs) O O₁ k T l
      → (LongHeld F I k (last_of (lines_of xs)) T l → TextPut (line_answer a t room (last_of (lines_of xs))) O₁ O₂) → LongHeld F I k' [] T' l'
      → LinesAnswered a F I t room (lines_of (xs ++ 0x0a ∷ [])) O O₂ k' T' l'
  unfolding lines_of
  left_answered xs O O₁ O₂ T T' k k' l l' s f h =
      let j = joined_feed (lines_of xs) in
      let e : lines_of (xs ++ 0x0a ∷ []) ≡ joined (lines_of xs) (line [] (behind [])) = lines_append xs (0x0a ∷ []) in
      record {
        answers = put_as (sym (ap (answers_to a t room) e ∙ j.0)) (put_then s.answers (f s.held));
        held = subst (λ (x : List ℕ). LongHeld F I k' x T' l') (sym (ap last_of e ∙ j.1)) h;
      }

  -- Before anything came.
  left_none : (cs piece : List ℕ) (O : Waiting) (T : List ℕ) (k : ℕ) (l : LongLine) → FeedFree cs → LongHeld F I k cs T l
      → LinesAnswered a F I t room (lines_of (cs ++ take 0 piece)) O O k T l
  unfolding answers_to last_of
  left_none cs piece O T k l n h =
      let e : lines_of (cs ++ take 0 piece) ≡ behind cs = ap lines_of (append-nil cs) ∙ lines_none cs n in
      record {
        answers = put_as (sym (ap (answers_to a t room) e)) (put_none);
        held = subst (λ (x : List ℕ). LongHeld F I k x T l) (sym (ap last_of e)) h;
      }

module _ (piece : List ℕ) where
  -- The rest of the piece, as it is lent.
  part : (at : ℕ) → take (length piece - at) (drop at piece) ≡ drop at piece
  part at = take_all (length piece - at) (drop at piece) (omega (arith, length-drop at piece))

  -- None of them is a line feed.
  taken_plain : (at n : ℕ) → UpToFeed (take (length piece - at) (drop at piece)) n → FeedFree (take n (drop at piece))
  taken_plain at n k j h e =
      let g : j < n = omega (arith, length-take n (drop at piece)) in
      k.before j g (ap (λ (x : List ℕ). get_or x j 0) (part at) ∙ sym (get_or-take n (drop at piece) j 0 g) ∙ e)

  -- Where the characters stop before the piece's end, a line feed stands.
  pub taken_feed : (at n : ℕ) → UpToFeed (take (length piece - at) (drop at piece)) n → at + n < length piece → get_or piece (at + n) 0 ≡ 0x0a
  taken_feed at n k h =
      let g : n < length (take (length piece - at) (drop at piece)) = omega (arith, length-take (length piece - at) (drop at piece), length-drop at piece) in
      sym (get_or-drop at piece n 0) ∙ sym (ap (λ (x : List ℕ). get_or x n 0) (part at)) ∙ k.end g

module _ {a : Asked} {F I T₀ : List ℕ} {l₀ : LongLine} {o : Reply (Unit {0})} {room : ℕ} {O₀ : Waiting} (piece : List ℕ) where
  -- Nothing was taken yet.
  pub so_far_none : PieceSoFar a F I T₀ l₀ o room piece O₀ 0 O₀ T₀ l₀
  so_far_none = record { inside = omega arith; long = refl; left = λ cs t n m p h s. left_none a F I t room cs piece O₀ T₀ (held_most 0) l₀ n h }

  -- Characters up to a line feed or the piece's end.
  pub so_far_fed : (at n : ℕ) {O : Waiting} {T T' : List ℕ} {l : LongLine} {l' : SoFar} → PieceSoFar a F I T₀ l₀ o room piece O₀ at O T l
      → UpToFeed (take (length piece - at) (drop at piece)) n
      → ((cs : List ℕ) → LineHeld cs T l.line → LineHeld (cs ++ take n (take (length piece - at) (drop at piece))) T' l') → length T' ≡ length T
      → PieceSoFar a F I T₀ l₀ o room piece O₀ (at + n) O T' (record { past = l.past; line = l' })
  so_far_fed at n {O} {T} {T'} {l} {l'} g k f e =
      let fed : LongLine = record { past = l.past; line = l' } in
      let few : held_most at + length (take n (drop at piece)) ≤ held_most (at + n) = omega (arith, length-take n (drop at piece)) in
      record {
        inside = taken_inside piece at n k g.inside;
        long = e ∙ g.long;
        left = λ cs t i m p h s.
            let more = append_assoc cs (take at piece) (take n (drop at piece)) ∙ ap (λ (x : List ℕ). cs ++ x) (sym (take-add at n piece)) in
            subst (λ (x : List ℕ). LinesAnswered a F I t room (lines_of x) O₀ O (held_most (at + n)) T' fed) more
            (left_fed a F I t room (cs ++ take at piece) (take n (drop at piece)) O₀ O T T' (held_most at) (held_most (at + n)) l fed
            (g.left cs t i m p h s) (taken_plain piece at n k)
            (λ d. long_wider (long_fed d (take n (drop at piece))
            (λ rs z. subst (λ (x : List ℕ). LineHeld (rs ++ take n x) T' l') (part piece at) (f rs z))) few));
      }

  -- The line so far, said otherwise.
  pub so_far_as : {at : ℕ} {O : Waiting} {T : List ℕ} {l l' : LongLine} → l' ≡ l → PieceSoFar a F I T₀ l₀ o room piece O₀ at O T l
      → PieceSoFar a F I T₀ l₀ o room piece O₀ at O T l'
  so_far_as {at} {O} {T} e g = subst (λ (x : LongLine). PieceSoFar a F I T₀ l₀ o room piece O₀ at O T x) (sym e) g

  -- A step that was made with as much room.
  pub so_far_room : {room' at at' : ℕ} {O O' : Waiting} {T T' : List ℕ} {l l' : LongLine} → room' ≡ room
      → (PieceSoFar a F I T₀ l₀ o room' piece O₀ at O T l → PieceSoFar a F I T₀ l₀ o room' piece O₀ at' O' T' l')
      → PieceSoFar a F I T₀ l₀ o room piece O₀ at O T l → PieceSoFar a F I T₀ l₀ o room piece O₀ at' O' T' l'
  so_far_room {room'} {at} {at'} {O} {O'} {T} {T'} {l} {l'} e f =
      subst (λ (n : ℕ). PieceSoFar a F I T₀ l₀ o n piece O₀ at O T l → PieceSoFar a F I T₀ l₀ o n piece O₀ at' O' T' l') e f

  -- A line feed, whose line was answered.
  pub so_far_answered : (at : ℕ) {room' : ℕ} {O O' : Waiting} {T : List ℕ} {l l' : LongLine} → PieceSoFar a F I T₀ l₀ o room piece O₀ at O T l
      → room' ≡ room
      → ((cs : List ℕ) (t : Reply Table) → length cs < count_most → tree_most < length T → LongHeld F I (2 * length T) cs T l → Opens F I t o
      → TextPut (line_answer a t room' cs) O O')
      → ((F I T : List ℕ) (k : ℕ) → 0 < k → LongHeld F I k [] T l') → at < length piece → get_or piece at 0 ≡ 0x0a
      → PieceSoFar a F I T₀ l₀ o room piece O₀ (at + 1) O' T l'
  so_far_answered at {room'} {O} {O'} {T} {l} {l'} g q f h i e =
      record {
        inside = omega arith;
        long = g.long;
        left = λ cs t j m p d s.
            let z : take (at + 1) piece ≡ take at piece ++ 0x0a ∷ [] =
            ap (λ (k : ℕ). take k piece) (add-one at) ∙ take-suc piece at 0 i ∙ ap (λ (k : ℕ). take at piece ++ k ∷ []) e in
            let last : List ℕ = last_of (lines_of (cs ++ take at piece)) in
            let few : length last < count_most =
            omega (arith, m, i, last_most (cs ++ take at piece), length-append cs (take at piece), length-take at piece) in
            let places : tree_most < length T = omega (arith, p, g.long) in
            let fits : held_most at ≤ 2 * length T = omega (arith, p, g.long, i) in
            let begun : 0 < held_most (at + 1) = omega arith in
            subst (λ (x : List ℕ). LinesAnswered a F I t room (lines_of x) O₀ O' (held_most (at + 1)) T l')
            (append_assoc cs (take at piece) (0x0a ∷ []) ∙ ap (λ (x : List ℕ). cs ++ x) (sym z))
            (left_answered a F I t room (cs ++ take at piece) O₀ O O' T T (held_most at) (held_most (at + 1)) l l' (g.left cs t j m p d s)
            (λ k. subst (λ (n : ℕ). TextPut (line_answer a t n last) O O') q (f last t few places (long_wider k fits) s))
            (h F I T (held_most (at + 1)) begun));
      }

  -- The whole piece.
  pub so_far_all : (at : ℕ) {O : Waiting} {T : List ℕ} {l₁ l : LongLine} → PieceSoFar a F I T₀ l₀ o room piece O₀ at O T l → length piece ≤ at
      → ((cs : List ℕ) → length cs < count_most → LongHeld F I (2 * length T₀) cs T₀ l₁ → LongHeld F I (2 * tree_most + 2) cs T₀ l₀)
      → (cs : List ℕ) (t : Reply Table) → FeedFree cs → length cs + length piece < count_most
      → 2 * tree_most + 2 + length piece ≤ 2 * length T₀ → LongHeld F I (2 * length T₀) cs T₀ l₁ → Opens F I t o
      → LinesAnswered a F I t room (lines_of (cs ++ piece)) O₀ O (2 * length T) T l
  so_far_all at {O} {T} {l₁} {l} g h w cs t n m p d s =
      let few : length cs < count_most = omega arith in
      let start : 2 * tree_most + 2 ≤ held_most 0 = omega arith in
      let fits : held_most at ≤ 2 * length T = omega (arith, g.inside, g.long, p) in
      let left = g.left cs t n m p (long_wider (w cs few d) start) s in
      let e : lines_of (cs ++ take at piece) ≡ lines_of (cs ++ piece) = ap (λ (x : List ℕ). lines_of (cs ++ x)) (take_all at piece h) in
      subst (λ (x : Lines). LinesAnswered a F I t room x O₀ O (2 * length T) T l) e
      (record { answers = left.answers; held = long_wider left.held fits })
