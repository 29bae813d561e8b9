-- Laws of one line at the front of a text, one step at a time, and of bytes that are filled behind others.
use mathlib.Core.Path.{◌≡◌, refl, sym, ap, ◌∙◌}
use mathlib.Core.List.{List, [], ◌∷◌, ◌++◌, append_assoc, append-nil}
use mathlib.Core.Option.{none, some}
use Prim.Native.Nat.{ℕ, suc, ◌+◌, ◌-◌, ◌*◌, ◌<◌, ◌≤◌}
use native.Mathlib.Decide.{dec_lt}
use native.Mathlib.Numerals.{add-one}
use native.Mathlib.Omega.{arith}
use native.Mathlib.Nat.{add-zero}
use borrow.Author.Tests.{eq-eqb, ne_eqb}
use lib.ListN.{length, get_or, take, drop, set, length-append, length-drop, drop_of_length-le, take-append-drop}
use lib.Seq.{drop-cons, set_at, length-take-le, take_at, append_snoc}
use Rattle.text.specs.Lines.{digit}
use Rattle.lines.specs.Scan.{Scanned, whole, bad, with_byte, scan, LinePut, FrontKept, EndedAt, LineTaken}
use Rattle.lines.specs.declared.Line.{Line}
use Rattle.std.specs.Prelude.{Option as Maybe, Some, None}
use Rattle.lines.proofs.Values.{digit_feed}

-- ---- one step of the scan, at place i of a text

-- Bytes in front of a line.
abbrev pub prepended : List ℕ → Scanned → Scanned
prepended acc (whole bs t) = whole (acc ++ bs) t
prepended acc bad = bad

-- No bytes in front change nothing.
prepended_none : (s : Scanned) → s ≡ prepended [] s
prepended_none (whole bs t) = refl
prepended_none bad = refl

-- So it is where nothing is decoded yet.
pub prepended_begin : (T : List ℕ) (at : ℕ) → scan (drop at T) ≡ prepended [] (scan (drop (at + 2 * 0) T))
prepended_begin T at = rw add-zero (prepended_none (scan (drop at T)))

-- One byte more goes to the bytes in front.
prepended_byte : (acc : List ℕ) (h l : ℕ) (s : Scanned)
    → prepended acc (with_byte (some h) (some l) s) ≡ prepended (acc ++ (h * 16 + l) ∷ []) s
prepended_byte acc h l (whole bs t) = ap (λ x. whole x t) (sym (append_snoc acc (h * 16 + l) bs))
prepended_byte acc h l bad = refl

-- The line ends at its 0a.
scan_cons_feed : (c : ℕ) (t : List ℕ) → c ≡ 10 → scan (c ∷ t) ≡ whole [] t
unfolding scan
scan_cons_feed c [] e = rw (eq-eqb c 10 e)
scan_cons_feed c (d ∷ t) e = rw (eq-eqb c 10 e)

-- It ends so at place i of a text too.
scan_feed : (T : List ℕ) (i : ℕ) → i < length T → get_or T i 0 ≡ 10 → scan (drop i T) ≡ whole [] (drop (i + 1) T)
scan_feed T i h e = rw (add-one, drop-cons T i 0) (scan_cons_feed (get_or T i 0) (drop (suc i) T) e)

-- One character is left at most, and it is no 0a.
pub scan_stop : (T : List ℕ) (i : ℕ) → length T - i ≤ 1 → (i < length T → get_or T i 0 ≡ 10 → ⊥) → scan (drop i T) ≡ bad
unfolding scan
scan_stop T i h f = go (dec_lt i (length T))
  where
    go : Dec (i < length T) → scan (drop i T) ≡ bad
    go (yes k) =
        let l : length T ≤ suc i = omega arith in
        rw (drop-cons T i 0 k, drop_of_length-le T l, ne_eqb (get_or T i 0) 10 (f k))
    go (no k) =
        let l : length T ≤ i = omega arith in
        rw (drop_of_length-le T l)

-- Two characters are left at least, and the first is no 0a: they are digits of a byte.
scan_pair : (T : List ℕ) (i : ℕ) → i + 1 < length T → (get_or T i 0 ≡ 10 → ⊥)
    → scan (drop i T) ≡ with_byte (digit (get_or T i 0)) (digit (get_or T (i + 1) 0)) (scan (drop (i + 2) T))
unfolding scan
scan_pair T i h f =
    let k : i < length T = omega arith in
    let l : suc i < length T = omega arith in
    let m : i + 2 ≡ suc (suc i) = omega arith in
    rw (m, add-one, drop-cons T i 0 k, drop-cons T (suc i) 0 l, ne_eqb (get_or T i 0) 10 f)

-- The first of them is neither a digit nor a 0a.
pub scan_first : (T : List ℕ) (i : ℕ) → i + 1 < length T → digit (get_or T i 0) ≡ none → (i < length T → get_or T i 0 ≡ 10 → ⊥)
    → scan (drop i T) ≡ bad
scan_first T i h e f =
    scan_pair T i h (f (omega arith)) ∙ ap (λ o. with_byte o (digit (get_or T (i + 1) 0)) (scan (drop (i + 2) T))) e

-- The first is a digit, the second is none.
pub scan_second : (T : List ℕ) (i v : ℕ) → i + 1 < length T → digit (get_or T i 0) ≡ some v → digit (get_or T (i + 1) 0) ≡ none
    → scan (drop i T) ≡ bad
scan_second T i v h e f = scan_pair T i h (digit_feed (get_or T i 0) v e) ∙ rw (e, f)

-- ---- what the answer says

-- The answer to a whole line.
taken_whole : (T : List ℕ) (s : Scanned) (bs t : List ℕ) (at used n then : ℕ) (F F' : List ℕ) → s ≡ whole bs t
    → LinePut T bs t at used n then F F' → LineTaken T s at used F F' (Some (record { bytes = n; next = then }))
taken_whole T s bs t at used n then F F' e p = rw e p

-- The answer to a bad line.
taken_bad : (T : List ℕ) (s : Scanned) (at used : ℕ) (F F' : List ℕ) → s ≡ bad → FrontKept used F F'
    → LineTaken T s at used F F' None
taken_bad T s at used F F' e k = rw e k

-- A line is its two numbers.
line_is : (l : Line) (n i : ℕ) → l.bytes ≡ n → l.next ≡ i → l ≡ record { bytes = n; next = i }
line_is l n i e f = rw (← e, ← f) refl

-- ---- bytes F that were F₀ and have acc from `used` on

-- The text before i is decoded: its bytes acc stand behind the first `used` bytes, and the line is acc and what the text from i on gives.
pub record DecodedUpTo (T F₀ F : List ℕ) (at used i n : ℕ) : Type 0 where
  pub acc : List ℕ
  pub long : length acc ≡ n
  pub place : i ≡ at + 2 * n
  pub inside : i ≤ length T
  pub bytes : F ≡ take used F₀ ++ acc ++ drop (used + n) F₀
  pub rest : scan (drop at T) ≡ prepended acc (scan (drop i T))

-- Nothing is filled in yet.
pub filled_none : (F : List ℕ) (used : ℕ) → F ≡ take used F ++ [] ++ drop (used + 0) F
filled_none F used = rw (append-nil, add-zero, take-append-drop)

-- How many bytes there are does not change.
filled_length : (F₀ acc : List ℕ) (used n : ℕ) → length acc ≡ n → used + n ≤ length F₀
    → length (take used F₀ ++ acc ++ drop (used + n) F₀) ≡ length F₀
filled_length F₀ acc used n e h =
    let k : used ≤ length F₀ = omega arith in
    simp (length-append, length-take-le used F₀ k, length-drop) (omega arith)

-- The bytes before `used` are as they were.
filled_front : (F₀ acc : List ℕ) (used n : ℕ) → length acc ≡ n → used + n ≤ length F₀
    → take used (take used F₀ ++ acc ++ drop (used + n) F₀) ≡ take used F₀
filled_front F₀ acc used n e h =
    let k : used ≤ length F₀ = omega arith in
    rw append_assoc (take_at (take used F₀) (acc ++ drop (used + n) F₀) used (length-take-le used F₀ k))

-- One byte more behind acc.
filled_more : (F₀ acc : List ℕ) (used n b : ℕ) → length acc ≡ n → used + n < length F₀
    → set (take used F₀ ++ acc ++ drop (used + n) F₀) (used + n) b ≡ take used F₀ ++ (acc ++ b ∷ []) ++ drop (used + (n + 1)) F₀
filled_more F₀ acc used n b e h =
    let k : used ≤ length F₀ = omega arith in
    let l : length (take used F₀ ++ acc) ≡ used + n = simp (length-append, length-take-le used F₀ k) (omega arith) in
    let m : used + (n + 1) ≡ suc (used + n) = omega arith in
    let here = set_at (take used F₀ ++ acc) (get_or F₀ (used + n) 0) (drop (suc (used + n)) F₀) b (used + n) l in
    rw (m, drop-cons F₀ (used + n) 0 h, here, ← append_assoc, append_snoc)

module _ {T F₀ F : List ℕ} {at used i n : ℕ} (room : 2 * used ≤ at) (text : length T ≤ 32768) (frames : 16384 ≤ length F₀)
    (d : DecodedUpTo T F₀ F at used i n) where
  -- There is room for what is decoded.
  pub decoded_room : used + n ≤ length F₀
  decoded_room = omega (arith, d.place, d.inside)

  -- The bytes before `used` are as they were.
  pub decoded_kept : FrontKept used F₀ F
  decoded_kept = record {
    long = ap length d.bytes ∙ filled_length F₀ d.acc used n d.long decoded_room;
    front = ap (λ x. take used x) d.bytes ∙ filled_front F₀ d.acc used n d.long decoded_room;
  }

  -- The line has ended.
  pub decoded_whole : i < length T → get_or T i 0 ≡ 10 → LineTaken T (scan (drop at T)) at used F₀ F (Some (record { bytes = n; next = i + 1 }))
  decoded_whole h e =
      let s : scan (drop at T) ≡ whole d.acc (drop (i + 1) T) =
      d.rest ∙ ap (prepended d.acc) (scan_feed T i h e) ∙ ap (λ x. whole x (drop (i + 1) T)) (append-nil d.acc) in
      taken_whole T (scan (drop at T)) d.acc (drop (i + 1) T) at used n (i + 1) F₀ F s
      (record { bytes = sym d.long; next = omega (arith, d.place); inside = omega arith; rest = refl; put = d.bytes })

  -- The line is bad from i on.
  pub decoded_bad : scan (drop i T) ≡ bad → LineTaken T (scan (drop at T)) at used F₀ F None
  decoded_bad e = taken_bad T (scan (drop at T)) at used F₀ F (d.rest ∙ ap (prepended d.acc) e) decoded_kept

  -- The line has ended, or it is bad from i on.
  pub decoded_ended : ((i < length T → get_or T i 0 ≡ 10 → ⊥) → scan (drop i T) ≡ bad) → (r : Maybe Line) → EndedAt T i n r
      → LineTaken T (scan (drop at T)) at used F₀ F r
  decoded_ended other (Some l) (e, f, h, g) =
      let s : l ≡ record { bytes = n; next = i + 1 } = line_is l n (i + 1) e f in
      rw s (decoded_whole h g)
  decoded_ended other None g = decoded_bad (other g)

  -- One byte more, and the place behind its digits.
  pub decoded_more : (j h l : ℕ) → j ≡ i + 2 → i + 1 < length T → digit (get_or T i 0) ≡ some h
      → digit (get_or T (i + 1) 0) ≡ some l
      → DecodedUpTo T F₀ (set F (used + n) (h * 16 + l)) at used j (n + 1)
  decoded_more j h l e k a b =
      let s : scan (drop i T) ≡ with_byte (some h) (some l) (scan (drop (i + 2) T)) =
      rw (a, b) at (scan_pair T i k (digit_feed (get_or T i 0) h a)) in
      record {
        acc = d.acc ++ (h * 16 + l) ∷ [];
        long = rw length-append (omega (arith, d.long));
        place = omega (arith, d.place);
        inside = omega arith;
        bytes = rw d.bytes (filled_more F₀ d.acc used n (h * 16 + l) d.long (omega (arith, d.place)));
        rest = rw e (d.rest ∙ ap (prepended d.acc) s ∙ prepended_byte d.acc h l (scan (drop (i + 2) T)));
      }
