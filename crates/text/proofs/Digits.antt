-- Hexadecimal digits: bytes are read back from their digits, and from nothing else.
use mathlib.Core.Path.{◌≡◌, refl, sym, ap, ◌∙◌}
use mathlib.Core.Bool.{Bool, true, false, ◌&&◌}
use mathlib.Core.List.{List, [], ◌∷◌, ◌++◌}
use mathlib.Core.Option.{Option, none, some, some-injective, none-ne-some}
use Prim.Native.Nat.{ℕ, ◌+◌, ◌-◌, ◌*◌, ◌/◌, ◌%◌, ◌<◌, ◌≤◌}
use native.Mathlib.Omega.{arith}
use borrow.Author.Tests.{ltb-true, ltb-false, leb-true, lt-ltb, le-ltb, le-leb, lt-leb}
use lib.Dec.{leb, ltb}
use lib.ListN.{length}
use Rattle.words.proofs.Tests.{both_hold}
use Rattle.text.specs.Lines.{digit, joined, bytes_of, digit_of, hex_of}
use Rattle.text.specs.Writing.{AtMost}

-- ---- digits

-- A value below 10 is a digit from 0 on, and a value from 10 on a letter from a on.
digit_of_low : (v : ℕ) → v < 10 → digit_of v ≡ 0x30 + v
unfolding digit_of
digit_of_low v h = rw (lt-ltb v 10 h, digit_of)

digit_of_high : (v : ℕ) → 10 ≤ v → digit_of v ≡ 0x61 + (v - 10)
unfolding digit_of
digit_of_high v h = rw (le-ltb v 10 h, digit_of)

digit_low : (c : ℕ) → 0x30 ≤ c → c ≤ 0x39 → digit c ≡ some (c - 0x30)
unfolding digit
digit_low c h k = rw (le-leb 0x30 c h, le-leb c 0x39 k, digit)

digit_high : (c : ℕ) → 0x61 ≤ c → c ≤ 0x66 → digit c ≡ some (c - 0x61 + 10)
unfolding digit
digit_high c h k = rw (le-leb 0x30 c (omega arith), lt-leb c 0x39 (omega arith), le-leb 0x61 c h, le-leb c 0x66 k, digit)

-- The digit of a value below 16 has that value.
pub digit_digit_of : (v : ℕ) → v < 16 → digit (digit_of v) ≡ some v
digit_digit_of v h = go (ltb v 10) refl
  where
    go : (b : Bool) → ltb v 10 ≡ b → digit (digit_of v) ≡ some v
    go true e =
        let l : v < 10 = ltb-true v 10 e in
        let s : 0x30 + v - 0x30 ≡ v = omega arith in
        ap digit (digit_of_low v l) ∙ digit_low (0x30 + v) (omega arith) (omega arith) ∙ ap some s
    go false e =
        let l : 10 ≤ v = ltb-false v 10 e in
        let s : 0x61 + (v - 10) - 0x61 + 10 ≡ v = omega arith in
        ap digit (digit_of_high v l) ∙ digit_high (0x61 + (v - 10)) (omega arith) (omega arith) ∙ ap some s

-- The value of a character, by the tests that it is a digit from 0 to 9, and a letter from a to f.
abbrev value_by : ℕ → Bool → Bool → Option ℕ
value_by c a b = elim a [ true ↦ some (c - 0x30) | false ↦ elim b [ true ↦ some (c - 0x61 + 10) | false ↦ none ] ]

-- A digit's value is below 16, and the digit is that of its value.
pub digit_inv : (c v : ℕ) → digit c ≡ some v → (v < 16) × (c ≡ digit_of v)
unfolding digit
digit_inv c v h = go (leb 0x30 c && leb c 0x39) (leb 0x61 c && leb c 0x66) refl refl h
  where
    go : (a b : Bool) → (leb 0x30 c && leb c 0x39) ≡ a → (leb 0x61 c && leb c 0x66) ≡ b → value_by c a b ≡ some v → (v < 16) × (c ≡ digit_of v)
    go true b e f i =
        let s : c - 0x30 ≡ v = some-injective _ _ i in
        let t = both_hold (leb 0x30 c) (leb c 0x39) e in
        let l : 0x30 ≤ c = leb-true 0x30 c t.0 in
        let m : c ≤ 0x39 = leb-true c 0x39 t.1 in
        (omega arith, rw (digit_of_low v (omega arith)) (omega arith))
    go false true e f i =
        let s : c - 0x61 + 10 ≡ v = some-injective _ _ i in
        let t = both_hold (leb 0x61 c) (leb c 0x66) f in
        let l : 0x61 ≤ c = leb-true 0x61 c t.0 in
        let m : c ≤ 0x66 = leb-true c 0x66 t.1 in
        (omega arith, rw (digit_of_high v (omega arith)) (omega arith))
    go false false e f i = absurd (none-ne-some v i)

-- No digit is the byte that closes a line.
pub digit_of_feed : (v : ℕ) → digit_of v ≡ 0x0a → ⊥
digit_of_feed v = go (ltb v 10) refl
  where
    go : (b : Bool) → ltb v 10 ≡ b → digit_of v ≡ 0x0a → ⊥
    go true e h = omega (arith, digit_of_low v (ltb-true v 10 e))
    go false e h = omega (arith, digit_of_high v (ltb-false v 10 e))

-- ---- bytes

-- Two digits to a byte.
pub length_hex : (bs : List ℕ) → length (hex_of bs) ≡ 2 * length bs
unfolding hex_of
length_hex [] = refl
length_hex (b ∷ bs) = omega (arith, length_hex bs)

-- The digits of two lists, one behind the other.
pub hex_append : (us vs : List ℕ) → hex_of (us ++ vs) ≡ hex_of us ++ hex_of vs
unfolding hex_of
hex_append [] vs = refl
hex_append (u ∷ us) vs = rw (hex_append us vs)

-- Bytes are read back from their digits.
pub hex_bytes : (bs : List ℕ) → AtMost 255 bs → bytes_of (hex_of bs) ≡ some bs
unfolding hex_of bytes_of
hex_bytes [] h = refl
hex_bytes (b ∷ bs) h =
    let s : b / 16 * 16 + b % 16 ≡ b = omega arith in
    rw (digit_digit_of (b / 16) (omega (arith, h.0)), digit_digit_of (b % 16) (omega arith), hex_bytes bs h.1, s)

-- The bytes bs are joined of two digits' values and bytes.
record Joins (a b : Option ℕ) (o : Option (List ℕ)) (bs : List ℕ) : Type 0 where
  high : ℕ
  low : ℕ
  rest : List ℕ
  first : a ≡ some high
  second : b ≡ some low
  behind : o ≡ some rest
  is : bs ≡ (high * 16 + low) ∷ rest

-- What joining two digits and bytes takes.
joined_inv : (a b : Option ℕ) (o : Option (List ℕ)) (bs : List ℕ) → joined a b o ≡ some bs → Joins a b o bs
joined_inv none b o bs e = absurd (none-ne-some bs e)
joined_inv (some h) none o bs e = absurd (none-ne-some bs e)
joined_inv (some h) (some l) none bs e = absurd (none-ne-some bs e)
joined_inv (some h) (some l) (some cs) bs e =
    record { high = h; low = l; rest = cs; first = refl; second = refl; behind = refl; is = sym (some-injective _ _ e) }

-- A byte's two digits, before digits.
hex_cons : (x y h l : ℕ) (cs ds bs : List ℕ) → (h < 16) × (x ≡ digit_of h) → (l < 16) × (y ≡ digit_of l)
    → cs ≡ hex_of ds → bs ≡ (h * 16 + l) ∷ ds → x ∷ y ∷ cs ≡ hex_of bs
unfolding hex_of
hex_cons x y h l cs ds bs p q e f =
    let s : (h * 16 + l) / 16 ≡ h = omega (arith, q.0) in
    let t : (h * 16 + l) % 16 ≡ l = omega (arith, q.0) in
    rw (f, s, t, p.1, q.1, e)

-- Only their digits are read as bytes.
pub bytes_hex : (cs bs : List ℕ) → bytes_of cs ≡ some bs → cs ≡ hex_of bs
unfolding hex_of bytes_of
bytes_hex [] bs e = rw (← some-injective _ _ e)
bytes_hex (x ∷ []) bs e = absurd (none-ne-some bs e)
bytes_hex (x ∷ y ∷ cs) bs e =
    let i = joined_inv (digit x) (digit y) (bytes_of cs) bs e in
    let high = digit_inv x i.high i.first in
    let low = digit_inv y i.low i.second in
    hex_cons x y i.high i.low cs i.rest bs high low (bytes_hex cs i.rest i.behind) i.is

-- What is read is bytes.
pub bytes_small : (cs bs : List ℕ) → bytes_of cs ≡ some bs → AtMost 255 bs
unfolding bytes_of
bytes_small [] bs e = rw (← some-injective _ _ e) tt
bytes_small (x ∷ []) bs e = absurd (none-ne-some bs e)
bytes_small (x ∷ y ∷ cs) bs e =
    let i = joined_inv (digit x) (digit y) (bytes_of cs) bs e in
    let high = digit_inv x i.high i.first in
    let low = digit_inv y i.low i.second in
    rw i.is (omega (arith, high.0, low.0), bytes_small cs i.rest i.behind)
