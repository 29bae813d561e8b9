-- The room after a planned tree's word was written to a part of it: a part of the word's length, or one of 32 bytes more
-- that were saved before and put back. Assumes nothing.
use mathlib.Core.Path.{◌≡◌, sym, ap, ◌∙◌}
use mathlib.Core.List.{List, ◌++◌, append_assoc}
use Prim.Native.Nat.{ℕ, ◌+◌, ◌-◌, ◌≤◌}
use native.Mathlib.Omega.{arith}
use borrow.Rule.Slice.PartMut.{put_mid, post_of, Post-is, mid_len, drop_put}
use lib.ListN.{length, take, drop, take-append-drop}
use lib.Seq.{take_all, take-append-add, take-append-le, length-take-le, drop-drop}
use Rattle.words.specs.Word.{Word}
use Rattle.machine.specs.Machine.{Tree, Table}
use Rattle.trees.specs.Shape.{depth_most}
use Rattle.word_writer.specs.WordWritten.{Due, Tidy}
use Rattle.word_writer.specs.declared.Written.{Written}
use Rattle.word_writer.proofs.Writing.{NodeWrites}

-- A list that is no longer than w and has w in front is w.
front_is : (ys w : List ℕ) → length ys ≤ length w → take (length w) ys ≡ w → ys ≡ w
front_is ys w h e = sym (take_all (length w) ys h) ∙ e

module _ (R ys w : List ℕ) (from end : ℕ) (is : end ≡ from + length w) (front : take (length w) ys ≡ w) where
  -- The part up to `end` was lent: it is w.
  lent_exactly : end ≤ length R → length ys ≡ length (take (end - from) (drop from R)) → put_mid from (end - from) R ys ≡ take from R ++ w ++ drop end R
  lent_exactly h l =
      let k : length ys ≡ end - from = l ∙ mid_len from end R h in
      let y : ys ≡ w = front_is ys w (omega arith) front in
      ap (λ (x : List ℕ). take from R ++ (x ++ post_of from (end - from) R)) y ∙ ap (λ (x : List ℕ). take from R ++ (w ++ x)) (Post-is from end R (omega arith))
      ∙ sym (append_assoc (take from R) w (drop end R))

  module _ (h : end + 32 ≤ length R) (l : length ys ≡ length (take (end + 32 - from) (drop from R))) where
    -- The room with the part up to 32 bytes behind `end` as it was left.
    abbrev left : List ℕ
    left = put_mid from (end + 32 - from) R ys

    -- As many bytes are left as were lent.
    lent_long : length ys ≡ end + 32 - from
    lent_long = l ∙ mid_len from (end + 32) R h

    -- The part begins with w.
    lent_front : take end left ≡ take from R ++ w
    lent_front =
        let more : List ℕ = post_of from (end + 32 - from) R in
        let m : end ≡ length (take from R) + length w = omega (arith, length-take-le from R (omega arith)) in
        ap (λ (n : ℕ). take n left) m ∙ take-append-add (take from R) (ys ++ more) (length w)
        ∙ ap (λ (x : List ℕ). take from R ++ x) (take-append-le (length w) ys more (omega (arith, lent_long)) ∙ front)

    -- The 32 bytes that stood behind w, and what stands behind the part, are what stood behind w.
    lent_behind : (piece : List ℕ) → piece ≡ take 32 (drop end R) → piece ++ drop (end + 32) left ≡ drop end R
    lent_behind piece b =
        ap (λ (x : List ℕ). piece ++ x) (drop_put from (end + 32) R ys (omega arith) h lent_long ∙ sym (drop-drop 32 end R))
        ∙ ap (λ (x : List ℕ). x ++ drop 32 (drop end R)) b ∙ take-append-drop 32 (drop end R)

    -- With those 32 bytes put back, the room is as it was but for w.
    lent_more : (R' piece : List ℕ) → piece ≡ take 32 (drop end R) → R' ≡ take end left ++ piece ++ drop (end + 32) left → R' ≡ take from R ++ w ++ drop end R
    lent_more R' piece b e =
        e ∙ append_assoc (take end left) piece (drop (end + 32) left) ∙ ap (λ (x : List ℕ). take end left ++ x) (lent_behind piece b)
        ∙ ap (λ (x : List ℕ). x ++ drop end R) lent_front

-- Of a room with 32 bytes behind `end` as many are saved.
pub saved_long : (R piece : List ℕ) (end : ℕ) → end + 32 ≤ length R → piece ≡ take 32 (drop end R) → 32 ≡ length piece
saved_long R piece end h b =
    let n : end + 32 - end ≡ 32 = omega arith in
    sym (ap (λ (x : List ℕ). length x) (b ∙ ap (λ (k : ℕ). take k (drop end R)) (sym n)) ∙ mid_len end (end + 32) R h ∙ n)

module _ {F P : List ℕ} {letters : ℕ} {M : Table} {q : ℕ} {t : Tree} {w : Word} (d : Due F P 0 depth_most letters M q t w) (many : letters ≡ length w) where
  -- Writing is due too where more letters have room.
  due_in : (room : ℕ) → letters ≤ room → Due F P 0 depth_most room M q t w
  due_in room h = record { bytes = d.bytes; planned = d.planned; levels = d.levels; inside = d.inside; word = d.word; fits = omega arith }

  -- Exactly the word's part was lent.
  pub exactly_put : {s : Written} (R ys : List ℕ) (from : ℕ) → from + letters ≤ length R
      → NodeWrites F P depth_most 0 (length (take (from + letters - from) (drop from R))) ys s
      → Tidy (take (from + letters - from) (drop from R)) ys s → put_mid from (from + letters - from) R ys ≡ take from R ++ w ++ drop (from + letters) R
  exactly_put R ys from h wrote tidy =
      let end : ℕ = from + letters in
      let l : length (take (end - from) (drop from R)) ≡ end - from = mid_len from end R h in
      lent_exactly R ys w from end (omega arith) (wrote M q t w (due_in _ (omega (arith, l)))).front h tidy.long

  -- 32 bytes more were lent, and put back.
  pub more_put : {s : Written} (R R' ys piece : List ℕ) (from : ℕ) → from + letters + 32 ≤ length R
      → piece ≡ take 32 (drop (from + letters) R)
      → NodeWrites F P depth_most 0 (length (take (from + letters + 32 - from) (drop from R))) ys s
      → Tidy (take (from + letters + 32 - from) (drop from R)) ys s
      → (let B = put_mid from (from + letters + 32 - from) R ys in R' ≡ take (from + letters) B ++ piece ++ drop (from + letters + length piece) B)
      → R' ≡ take from R ++ w ++ drop (from + letters) R
  more_put R R' ys piece from h b wrote tidy e =
      let end : ℕ = from + letters in
      let l : length (take (end + 32 - from) (drop from R)) ≡ end + 32 - from = mid_len from (end + 32) R h in
      let B : List ℕ = put_mid from (end + 32 - from) R ys in
      let n = ap (λ (k : ℕ). take end B ++ piece ++ drop (end + k) B) (sym (saved_long R piece end h b)) in
      lent_more R ys w from end (omega arith) (wrote M q t w (due_in _ (omega (arith, l)))).front h tidy.long R' piece b (e ∙ n)
