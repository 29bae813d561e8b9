-- Laws of a line of hexadecimal that comes in pieces: what bytes it is with more characters, and what the line so far tells then.
use mathlib.Core.Path.{◌≡◌, refl, sym, ap, subst, ◌∙◌}
use mathlib.Core.Bool.{Bool, true, false}
use mathlib.Core.List.{List, [], ◌∷◌, ◌++◌, append_assoc, append-nil}
use mathlib.Core.Option.{Option, none, some, some-injective, none-ne-some}
use Prim.Native.Nat.{ℕ, suc, ◌+◌, ◌-◌, ◌*◌, ◌/◌, ◌%◌, ◌<◌, ◌≤◌}
use native.Mathlib.Numerals.{add-one}
use native.Mathlib.Omega.{arith}
use borrow.Author.Tests.{ltb-true, ltb-false, le-leb, lt-leb}
use lib.Dec.{ltb}
use lib.ListN.{length, take, drop, get_or, length-append, length-take, length-drop, length-set}
use lib.Seq.{take_all, take-suc, take-append-le, take-suc-set}
use Rattle.std.specs.Prelude.{Some, None}
use Rattle.words.specs.Told.{Told}
use Rattle.words.proofs.Told.{told_yes, told_no}
use Rattle.text.specs.Lines.{digit, joined, bytes_of, hex_of}
use Rattle.text.specs.Writing.{AtMost}
use Rattle.text.proofs.Digits.{digit_digit_of, bytes_hex, bytes_small}
use Rattle.hexline.specs.SoFar.{Value, ByteStored, TreeBytes, any_of, State, whole, waits, strange, LineHeld, WholeBytes, UpToFeed}
use Rattle.hexline.specs.declared.SoFar.{SoFar}
use Rattle.hexline.specs.declared.End.{End}
use Rattle.hexline.specs.declared.End.TheVariants as end

-- ---- digits

-- The decimal digits have their values.
pub value_low : (c : ℕ) → 48 ≤ c → c ≤ 57 → Value c (Some (c - 48))
unfolding digit
value_low c h k = (omega arith, rw (le-leb 0x30 c h, le-leb c 0x39 k, digit))

-- The letters from a to f have theirs.
pub value_high : (c : ℕ) → 97 ≤ c → c ≤ 102 → Value c (Some (c - 97 + 10))
unfolding digit
value_high c h k = (omega arith, rw (le-leb 0x30 c (omega arith), lt-leb c 0x39 (omega arith), le-leb 0x61 c h, le-leb c 0x66 k, digit))

-- Below the digits is none.
pub value_below : (c : ℕ) → c < 48 → Value c None
unfolding digit
value_below c h = rw (lt-leb 0x30 c h, lt-leb 0x61 c (omega arith), digit)

-- Nor between digits and letters.
pub value_between : (c : ℕ) → 57 < c → c < 97 → Value c None
unfolding digit
value_between c h k = rw (le-leb 0x30 c (omega arith), lt-leb c 0x39 h, lt-leb 0x61 c k, digit)

-- Nor above the letters.
pub value_above : (c : ℕ) → 102 < c → Value c None
unfolding digit
value_above c h = rw (le-leb 0x30 c (omega arith), lt-leb c 0x39 (omega arith), le-leb 0x61 c (omega arith), lt-leb c 0x66 h, digit)

-- ---- bytes

-- Bytes in front of those that other characters are, if these are any.
abbrev pub onto : List ℕ → Option (List ℕ) → Option (List ℕ)
onto bs none = none
onto bs (some ds) = some (bs ++ ds)

-- A byte from its halves, in front of such bytes.
byte_onto : (b : ℕ) (bs : List ℕ) (o : Option (List ℕ)) → joined (some (b / 16)) (some (b % 16)) (onto bs o) ≡ onto (b ∷ bs) o
byte_onto b bs none = refl
byte_onto b bs (some ds) =
    let s : b / 16 * 16 + b % 16 ≡ b = omega arith in
    rw s

-- Characters behind the digits of bytes.
hex_append : (bs rest : List ℕ) (o : Option (List ℕ)) → AtMost 255 bs → bytes_of rest ≡ o → bytes_of (hex_of bs ++ rest) ≡ onto bs o
unfolding hex_of bytes_of
hex_append [] rest none h e = e
hex_append [] rest (some ds) h e = e
hex_append (b ∷ bs) rest o h e =
    rw (digit_digit_of (b / 16) (omega (arith, h.0)), digit_digit_of (b % 16) (omega arith), hex_append bs rest o h.1 e) (byte_onto b bs o)

-- Characters behind whole bytes.
pub bytes_append : (front rest bs : List ℕ) (o : Option (List ℕ)) → bytes_of front ≡ some bs → bytes_of rest ≡ o → bytes_of (front ++ rest) ≡ onto bs o
bytes_append front rest bs o e f = rw (bytes_hex front bs e) (hex_append bs rest o (bytes_small front bs e) f)

-- With one digit behind whole bytes they are no bytes.
bytes_odd : (front bs : List ℕ) (c : ℕ) → bytes_of front ≡ some bs → bytes_of (front ++ c ∷ []) ≡ none
unfolding bytes_of
bytes_odd front bs c e = bytes_append front (c ∷ []) bs none e refl

-- With two they are one byte more.
pub bytes_byte : (front bs : List ℕ) (x c h l : ℕ) → bytes_of front ≡ some bs → digit x ≡ some h → digit c ≡ some l
    → bytes_of (front ++ x ∷ c ∷ []) ≡ some (bs ++ (h * 16 + l) ∷ [])
unfolding bytes_of
bytes_byte front bs x c h l e f g = bytes_append front (x ∷ c ∷ []) bs (some ((h * 16 + l) ∷ [])) e (rw (f, g))

-- With another character they are none whatever comes behind it: it stands first in a pair.
strange_first : (c : ℕ) (more : List ℕ) → digit c ≡ none → bytes_of (c ∷ more) ≡ none
unfolding bytes_of
strange_first c [] e = refl
strange_first c (x ∷ more) e = rw e

-- Or it stands second in a pair.
strange_second : (x c h : ℕ) (more : List ℕ) → digit x ≡ some h → digit c ≡ none → bytes_of (x ∷ c ∷ more) ≡ none
unfolding bytes_of
strange_second x c h more e f = rw (e, f)

-- What is no bytes whatever comes stays so.
strange_more : (cs : List ℕ) (c : ℕ) → ((more : List ℕ) → bytes_of (cs ++ more) ≡ none) → (more : List ℕ)
    → bytes_of ((cs ++ c ∷ []) ++ more) ≡ none
strange_more cs c n more = rw append_assoc (n (c ∷ more))

-- ---- the line so far

-- A byte more, stored where it has a place.
kept_more : {bs T T' : List ℕ} {b n r : ℕ} → TreeBytes bs T n → ByteStored b T n T' r → TreeBytes (bs ++ b ∷ []) T' r
kept_more {bs} {T} {T'} {b} {n} {r} k s = go (ltb n (length T)) refl
  where
    go : (t : Bool) → ltb n (length T) ≡ t → TreeBytes (bs ++ b ∷ []) T' r
    go true t =
        let h : n < length T = ltb-true n (length T) t in
        let m : n ≡ length bs = omega (arith, k.many) in
        let l : length (bs ++ b ∷ []) ≡ suc n = rw length-append (omega arith) in
        rw ((s.here h).0, (s.here h).1, add-one) (record {
          many = rw (l, length-set) (omega arith);
          front = rw (take-suc-set T n b h, k.front, take_all n bs (omega arith), take_all (suc n) (bs ++ b ∷ []) (omega arith));
        })
    go false t =
        let h : length T ≤ n = ltb-false n (length T) t in
        let m : n ≤ length bs = omega (arith, k.many) in
        rw ((s.full h).0, (s.full h).1) (record {
          many = rw length-append (omega (arith, k.many));
          front = rw take-append-le k.front;
        })

-- Something has come.
any_more : (cs : List ℕ) (c : ℕ) → true ≡ any_of (cs ++ c ∷ [])
any_more [] c = refl
any_more (x ∷ cs) c = refl

-- A line of which nothing has come.
pub held_none : (T : List ℕ) → LineHeld [] T (record { bytes = 0; end = end.Whole; any = false })
unfolding bytes_of
held_none T = record { any = refl; state = whole [] refl refl (record { many = omega arith; front = refl }) }

-- The digit of a line that ends with one, and any number for another line.
abbrev digit_in : End → ℕ
digit_in end.Whole = 0
digit_in (end.Digit h) = h
digit_in end.Strange = 0

module _ {cs T : List ℕ} {l : SoFar} where
  -- A line that does not end with a whole byte is no bytes.
  pub told_other : (l.end ≡ end.Whole → ⊥) → LineHeld cs T l → Told (WholeBytes cs T l.bytes) false
  told_other e h = told_no (λ w. go h.state w.0 w.1)
    where
      go : State cs T l → (bs : List ℕ) → bytes_of cs ≡ some bs → ⊥
      go (whole ds f g k) bs i = e f
      go (waits front ds x d f j g m n k) bs i = let z : ◌≡◌ {A = ℕ} 0 1 = cc (ap bytes_of g, bytes_odd front ds x n) in omega arith
      go (strange b n) bs i = let z : ◌≡◌ {A = ℕ} 0 1 = cc (append-nil cs, n []) in omega arith

  -- One that ends so is whole bytes.
  pub told_whole : l.end ≡ end.Whole → LineHeld cs T l → Told (WholeBytes cs T l.bytes) true
  told_whole e h = go h.state
    where
      go : State cs T l → Told (WholeBytes cs T l.bytes) true
      go (whole bs f g k) = told_yes (bs, g, k)
      go (waits front bs x d f j g m n k) = absurd (let z : ◌≡◌ {A = ℕ} 0 1 = cc (e, f) in omega arith)
      go (strange b n) = absurd (let z : ◌≡◌ {A = ℕ} 0 1 = cc (e, b) in omega arith)

  module _ (c : ℕ) where
    -- Another character comes, and the line says so.
    pub fed_strange : Value c None → LineHeld cs T l → LineHeld (cs ++ c ∷ []) T (record { bytes = l.bytes; end = end.Strange; any = true })
    fed_strange v h = record { any = any_more cs c; state = strange refl (go h.state) }
      where
        go : State cs T l → (more : List ℕ) → bytes_of ((cs ++ c ∷ []) ++ more) ≡ none
        go (whole bs f e k) more = rw append_assoc (bytes_append cs (c ∷ more) bs none e (strange_first c more v))
        go (waits front bs x d f i e g j k) more =
            rw (e, append_assoc (front ++ x ∷ []), append_assoc)
            (bytes_append front (x ∷ c ∷ more) bs none j (strange_second x c d more g v))
        go (strange b n) more = strange_more cs c n more

    -- A digit comes where none waits.
    pub fed_waits : (d : ℕ) → Value c (Some d) → l.end ≡ end.Whole → LineHeld cs T l
        → LineHeld (cs ++ c ∷ []) T (record { bytes = l.bytes; end = end.Digit d; any = true })
    fed_waits d v w h = record { any = any_more cs c; state = go h.state }
      where
        go : State cs T l → State (cs ++ c ∷ []) T (record { bytes = l.bytes; end = end.Digit d; any = true })
        go (whole bs f e k) = waits cs bs c d refl v.0 refl v.1 e k
        go (waits front bs x m f i e g j k) = absurd (let z : ◌≡◌ {A = ℕ} 0 1 = cc in omega arith)
        go (strange b n) = absurd (let z : ◌≡◌ {A = ℕ} 0 1 = cc in omega arith)

    -- The fellow of a waiting digit comes.
    pub fed_byte : (m d : ℕ) {T' : List ℕ} {b r : ℕ} → Value c (Some d) → l.end ≡ end.Digit m → ByteStored b T l.bytes T' r
        → (m < 16 → b ≡ m * 16 + d)
        → LineHeld cs T l
        → LineHeld (cs ++ c ∷ []) T' (record { bytes = r; end = end.Whole; any = true })
    fed_byte m d {T'} {b} {r} v w s q h = record { any = any_more cs c; state = go h.state }
      where
        go : State cs T l → State (cs ++ c ∷ []) T' (record { bytes = r; end = end.Whole; any = true })
        go (whole bs f e k) = absurd (let z : ◌≡◌ {A = ℕ} 0 1 = cc in omega arith)
        go (waits front bs x n f i e g j k) =
            let same : n ≡ m = ap digit_in (sym f ∙ w) in
            let high : digit x ≡ some m = g ∙ ap some same in
            whole (bs ++ b ∷ []) refl (rw (e, append_assoc, q (omega arith)) (bytes_byte front bs x c m d j high v.1)) (kept_more k s)
        go (strange t n) = absurd (let z : ◌≡◌ {A = ℕ} 0 1 = cc in omega arith)

-- ---- the characters of a piece

-- The first n characters of a piece are taken: none is a line feed, and the line tells of these behind what it told of before.
pub record FedSoFar (P T₀ : List ℕ) (l₀ : SoFar) (T : List ℕ) (l : SoFar) (n : ℕ) : Type 0 where
  pub inside : n ≤ length P
  pub long : length T ≡ length T₀
  pub before : (k : ℕ) → k < n → get_or P k 0 ≡ 0x0a → ⊥
  pub held : (cs : List ℕ) → LineHeld cs T₀ l₀ → LineHeld (cs ++ take n P) T l

-- None is taken.
pub fed_none : (P T : List ℕ) (l : SoFar) → FedSoFar P T l T l 0
fed_none P T l = record { inside = omega arith; long = refl; before = λ k h e. omega arith; held = λ cs h. rw append-nil h }

module _ {P T₀ : List ℕ} {l₀ : SoFar} {T : List ℕ} {l : SoFar} {n : ℕ} (g : FedSoFar P T₀ l₀ T l n) where
  -- One more is taken.
  pub fed_more : {T' : List ℕ} {l' : SoFar} → n < length P → length T' ≡ length T → (get_or P n 0 ≡ 0x0a → ⊥)
      → ((cs : List ℕ) → LineHeld cs T l → LineHeld (cs ++ get_or P n 0 ∷ []) T' l') → FedSoFar P T₀ l₀ T' l' (n + 1)
  fed_more {T'} {l'} h e no-feed fed = record {
    inside = omega arith;
    long = e ∙ g.long;
    before = λ k i. go k i (ltb k n) refl;
    held = λ cs i. rw (add-one, take-suc P n 0 h, ← append_assoc) (fed (cs ++ take n P) (g.held cs i));
  }
    where
      go : (k : ℕ) → k < n + 1 → (t : Bool) → ltb k n ≡ t → get_or P k 0 ≡ 0x0a → ⊥
      go k i true t = g.before k (ltb-true k n t)
      go k i false t = let s : k ≡ n = omega (arith, ltb-false k n t) in rw s no-feed

  -- All are taken.
  pub fed_all : length P ≤ n → (cs : List ℕ) → LineHeld cs T₀ l₀ → LineHeld (cs ++ take (length P) P) T l
  fed_all h cs i =
      let j = g.inside in
      let e : n ≡ length P = omega arith in
      subst (λ (k : ℕ). LineHeld (cs ++ take k P) T l) e (g.held cs i)

  -- The piece ends there, or a line feed stands there.
  pub fed_taken : (n < length P → get_or P n 0 ≡ 0x0a) → UpToFeed P n
  fed_taken e = record { inside = g.inside; before = g.before; end = e }

-- What was taken of the part of a piece from `at` on ends inside the piece.
pub taken_inside : (piece : List ℕ) (at n : ℕ) → UpToFeed (take (length piece - at) (drop at piece)) n → at ≤ length piece → at + n ≤ length piece
taken_inside piece at n t h = omega (arith, t.inside, length-take (length piece - at) (drop at piece), length-drop at piece)

-- Characters that are bytes are held in the tree, as many as have a place.
pub held_bytes : (cs T bs : List ℕ) (l : SoFar) → LineHeld cs T l → bytes_of cs ≡ some bs → TreeBytes bs T l.bytes
held_bytes cs T bs l h e = go h.state
  where
    go : State cs T l → TreeBytes bs T l.bytes
    go (whole xs f g k) = subst (λ (ys : List ℕ). TreeBytes ys T l.bytes) (some-injective _ _ (sym g ∙ e)) k
    go (waits front xs c d f m g j i k) = absurd (none-ne-some bs (sym (bytes_odd front xs c i) ∙ ap bytes_of (sym g) ∙ e))
    go (strange b n) = absurd (none-ne-some bs (sym (n []) ∙ ap bytes_of (append-nil cs) ∙ e))
