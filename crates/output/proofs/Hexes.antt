-- Hexadecimal digits that are put into places. Assumes nothing.
use mathlib.Core.Path.{◌≡◌, sym, ap, subst, ◌∙◌}
use Rattle.std.proofs.lemmas.List.{take-append-drop}
use mathlib.Core.List.{List, [], ◌∷◌, ◌++◌, append-nil, append_assoc}
use mathlib.Core.Logic.{⊎_elim}
use Prim.Native.Nat.{ℕ, suc, ◌+◌, ◌-◌, ◌*◌, ◌/◌, ◌%◌, ◌<◌, ◌≤◌}
use native.Mathlib.Omega.{arith}
use native.Mathlib.Numerals.{add-one}
use lib.ListN.{length, take, drop, get_or, set, length-append, length-take, length-drop, drop_of_length-le}
use lib.Seq.{take-suc, drop-cons, set_at, take_at, take_all, take-add, append_snoc, length-take-le}
use borrow.Rule.Slice.PartMut.{put_mid}
use Rattle.text.specs.Lines.{digit_of, hex_of}
use Rattle.text.proofs.Digits.{length_hex, hex_append}
use Rattle.output.specs.Queue.{stopped, Queued, Flushed, Waiting, TextPut}
use Rattle.output.proofs.Queues.{queued_failed, put_as, put_then}
use Rattle.output.specs.Places.{Spelt, SpeltSome, TwoPlaces}

-- The first i bytes have 2 i digits.
front_digits : (bytes : List ℕ) (i : ℕ) → i ≤ length bytes → length (hex_of (take i bytes)) ≡ i * 2
front_digits bytes i h = omega (arith, length_hex (take i bytes), length-take i bytes)

-- The digits of one byte more.
hex_next : (bytes : List ℕ) (i : ℕ) → i < length bytes
    → hex_of (take (i + 1) bytes) ≡ hex_of (take i bytes) ++ digit_of (get_or bytes i 0 / 16) ∷ digit_of (get_or bytes i 0 % 16) ∷ []
unfolding hex_of
hex_next bytes i h = rw (add-one, take-suc bytes i 0, hex_append)

-- Two digits stored behind those of the first i bytes.
two_set : (p rest : List ℕ) (y z a b n : ℕ) → length p ≡ n → set (set (p ++ y ∷ z ∷ rest) n a) (n + 1) b ≡ p ++ a ∷ b ∷ rest
two_set p rest y z a b n e =
    let f : length (p ++ a ∷ []) ≡ n + 1 = length-append p (a ∷ []) ∙ ap (λ (k : ℕ). k + 1) e in
    ap (λ (l : List ℕ). set l (n + 1) b) (set_at p y (z ∷ rest) a n e ∙ sym (append_snoc p a (z ∷ rest))) ∙ set_at (p ++ a ∷ []) z rest b (n + 1) f
    ∙ append_snoc p a (b ∷ rest)

-- Then the digits of the first i + 1 bytes stand at the front.
pub hex_stored : (bytes P P₀ : List ℕ) (i a b : ℕ) → P ≡ hex_of (take i bytes) ++ drop (i * 2) P₀ → a ≡ digit_of (get_or bytes i 0 / 16)
    → b ≡ digit_of (get_or bytes i 0 % 16) → i < length bytes → i * 2 + 2 ≤ length P₀
    → set (set P (i * 2) a) (i * 2 + 1) b ≡ hex_of (take (i + 1) bytes) ++ drop ((i + 1) * 2) P₀
hex_stored bytes P P₀ i a b e ea eb h k =
    let d : drop (i * 2) P₀ ≡ get_or P₀ (i * 2) 0 ∷ get_or P₀ (suc (i * 2)) 0 ∷ drop (suc (suc (i * 2))) P₀ =
    drop-cons P₀ (i * 2) 0 (omega arith) ∙ ap (λ (l : List ℕ). get_or P₀ (i * 2) 0 ∷ l) (drop-cons P₀ (suc (i * 2)) 0 (omega arith)) in
    let n : suc (suc (i * 2)) ≡ (i + 1) * 2 = omega arith in
    ap (λ (l : List ℕ). set (set l (i * 2) a) (i * 2 + 1) b) (e ∙ ap (λ (l : List ℕ). hex_of (take i bytes) ++ l) d)
    ∙ two_set (hex_of (take i bytes)) (drop (suc (suc (i * 2))) P₀) _ _ a b (i * 2) (front_digits bytes i (omega arith))
    ∙ rw (hex_next bytes i h, append_assoc, ea, eb, n)

-- Digits that were put behind the first `to` bytes: where nothing was written before, or where all that waited was.
hex_piece : (B O P' : List ℕ) (at to n : ℕ) → TwoPlaces O at to → to < length O → length O ≤ stopped → Spelt B (drop to O) P' n
    → (n ≡ 0 → ⊥)
    → Queued (hex_of (take n B)) O at (take to O ++ P') (to + n * 2)
hex_piece B O P' at to n t h k s z =
    let few : n ≤ length B = omega (arith, s.many) in
    let two : n * 2 + to ≤ length O = omega (arith, s.many, length-drop to O) in
    let hl = front_digits B n few in
    let front : length (take to O) ≡ to = length-take-le to O (omega arith) in
    let long : length P' ≡ length O - to = ap length s.digits ∙ length-append (hex_of (take n B)) (drop (n * 2) (drop to O)) ∙ counted two hl in
    record {
      kept = length-append (take to O) P' ∙ (omega arith);
      fits = λ i. ⊎_elim (λ e. omega (arith, e.0)) (λ e. absurd (full i hl e.0)) t;
      row = λ i.
          ⊎_elim (λ e. (omega (arith, e.0), ([], put front hl ∙ ap (λ (j : ℕ). take j O ++ hex_of (take n B)) e.0)))
          (λ e. written hl front e.1) t;
    }
  where
    counted : n * 2 + to ≤ length O → length (hex_of (take n B)) ≡ n * 2
        → length (hex_of (take n B)) + length (drop (n * 2) (drop to O)) ≡ length O - to
    counted two e = simp length-drop (omega arith)

    full : at + length (hex_of (take n B)) ≤ length O → length (hex_of (take n B)) ≡ n * 2 → length O < at + 2 → ⊥
    full i e g = z (omega arith)

    put : length (take to O) ≡ to → length (hex_of (take n B)) ≡ n * 2 → take (to + n * 2) (take to O ++ P') ≡ take to O ++ hex_of (take n B)
    put e f =
        ap (λ (l : List ℕ). take (to + n * 2) (take to O ++ l)) s.digits
        ∙ ap (take (to + n * 2)) (sym (append_assoc (take to O) (hex_of (take n B)) (drop (n * 2) (drop to O))))
        ∙ take_at (take to O ++ hex_of (take n B)) (drop (n * 2) (drop to O)) (to + n * 2) (length-append (take to O) (hex_of (take n B)) ∙ omega arith)

    written : length (hex_of (take n B)) ≡ n * 2 → length (take to O) ≡ to → Flushed O at to
        → (at < stopped) × ((gone : List ℕ) × (gone ++ take (to + n * 2) (take to O ++ P') ≡ take at O ++ hex_of (take n B)))
    written e f g =
        ⊎_elim
        (λ d. (d.2, (take at O, ap (λ (l : List ℕ). take at O ++ l) (put f e ∙ ap (λ (j : ℕ). take j O ++ hex_of (take n B)) d.0))))
        (λ d. absurd (over d))
        g
      where
        over : to ≡ stopped → ⊥
        over d = omega arith

-- The same, as the lender of places sees it.
hex_lent : (bytes O P' : List ℕ) (at to n : ℕ) → TwoPlaces O at to → to < length O → length O ≤ stopped
    → Spelt bytes (take (length O - to) (drop to O)) P' n → (n ≡ 0 → ⊥)
    → Queued (hex_of (take n bytes)) O at (put_mid to (length O - to) O P') (to + n * 2)
hex_lent bytes O P' at to n t h k s z =
    let p : take (length O - to) (drop to O) ≡ drop to O = take_all (length O - to) (drop to O) (omega (arith, length-drop to O)) in
    let short : length (drop to O) ≤ length O - to = omega (arith, length-drop to O) in
    let none : drop (length O - to) (drop to O) ≡ [] = drop_of_length-le (drop to O) short in
    let s' : Spelt bytes (drop to O) P' n = rw p at s in
    rw (none, append-nil) (hex_piece bytes O P' at to n t h k s' z)

-- The digits of the next n bytes.
hex_more : (bytes : List ℕ) (i n : ℕ) → hex_of (take i bytes) ++ hex_of (take n (drop i bytes)) ≡ hex_of (take (i + n) bytes)
hex_more bytes i n = sym (hex_append (take i bytes) (take n (drop i bytes))) ∙ ap hex_of (sym (take-add i n bytes))

-- As many as have places, as the buffer is seen: m is what it was when two places were there.
pub spelt_some : (bytes P' : List ℕ) (w m : Waiting) (O : List ℕ) (to n lent : ℕ) → m.bytes ≡ w.bytes → m.lent ≡ w.lent → TwoPlaces w.bytes w.used m.used
    → O ≡ m.bytes → lent ≡ m.lent → to ≡ m.used → 2 ≤ length m.bytes - m.used → length O < stopped
    → Spelt bytes (take (length O - to) (drop to O)) P' n
    → SpeltSome bytes w (record { bytes = put_mid to (length O - to) O P'; used = to + n * 2; lent = lent }) n
spelt_some bytes P' w m O to n lent kept same two e l f h k s = record {
  few = omega (arith, s.many);
  some = λ z. record {
    queued = subst (λ (o : List ℕ). Queued (hex_of (take n bytes)) o w.used (put_mid to (length O - to) O P') (to + n * 2)) (e ∙ kept)
        (hex_lent bytes O P' w.used to n (rw (f, e, kept) two) (omega (arith, ap length e)) (omega arith) s (λ y. omega arith));
    same_buffer = l ∙ same;
  };
  none = λ z y. absurd (empty z y);
}
  where
    empty : n ≡ 0 → 0 < length bytes → ⊥
    empty z y = omega (arith, s.many, length-take (length O - to) (drop to O), length-drop to O, ap length e)

-- Less than two places were left where the waiting bytes ended, or where they were written: a write has failed.
pub spelt_none : (bytes : List ℕ) (w m : Waiting) (O : List ℕ) (lent : ℕ) → m.bytes ≡ w.bytes → m.lent ≡ w.lent → TwoPlaces w.bytes w.used m.used
    → O ≡ m.bytes → lent ≡ m.lent → length m.bytes - m.used < 2 → SpeltSome bytes w (record { bytes = O; used = stopped; lent = lent }) 0
spelt_none bytes w m O lent kept same two e l k = record {
  few = omega arith;
  some = λ z. absurd (omega arith);
  none = λ z y. record { queued = queued_failed (hex_of bytes) w.bytes O w.used (ap length (e ∙ kept)) (over y); same_buffer = l ∙ same };
}
  where
    over : 0 < length bytes → w.used + length (hex_of bytes) ≤ length w.bytes → ⊥
    over y g =
        let all = length_hex bytes in
        ⊎_elim (λ (d : (m.used ≡ w.used) × (w.used + 2 ≤ length w.bytes)). omega (arith, d.0, d.1, ap length kept))
        (λ (d : (length w.bytes < w.used + 2) × Flushed w.bytes w.used m.used). omega (arith, d.0)) two

-- The digits of more bytes behind those of the first i; or none, and it is as if all were put.
pub hexes_more : (bytes : List ℕ) (i n : ℕ) {w v x : Waiting} → i < length bytes → TextPut (hex_of (take i bytes)) w v
    → SpeltSome (take (length bytes - i) (drop i bytes)) v x n → 0 < n → (i + n ≤ length bytes) × TextPut (hex_of (take (i + n) bytes)) w x
hexes_more bytes i n h p s z =
    let b : take (length bytes - i) (drop i bytes) ≡ drop i bytes = take_all (length bytes - i) (drop i bytes) (omega (arith, length-drop i bytes)) in
    let s' : SpeltSome (drop i bytes) _ _ n = rw b at s in
    (omega (arith, s'.few, length-drop i bytes), put_as (hex_more bytes i n) (put_then p (s'.some z)))

pub hexes_failed : (bytes : List ℕ) (i n : ℕ) {w v x : Waiting} → i < length bytes → TextPut (hex_of (take i bytes)) w v
    → SpeltSome (take (length bytes - i) (drop i bytes)) v x n → n ≡ 0 → TextPut (hex_of bytes) w x
hexes_failed bytes i n h p s z =
    let b : take (length bytes - i) (drop i bytes) ≡ drop i bytes = take_all (length bytes - i) (drop i bytes) (omega (arith, length-drop i bytes)) in
    let s' : SpeltSome (drop i bytes) _ _ n = rw b at s in
    put_as (sym (hex_append (take i bytes) (drop i bytes)) ∙ ap hex_of (take-append-drop i bytes))
    (put_then p (s'.none z (omega (arith, length-drop i bytes))))
