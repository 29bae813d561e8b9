-- Writing into a room in pieces, and hexadecimal digits in pieces.
use mathlib.Core.Path.{◌≡◌, refl, sym, ap, ap₂, subst, ◌∙◌}
use mathlib.Core.Bool.{Bool, true, false}
use mathlib.Core.List.{List, [], ◌∷◌, ◌++◌}
use Prim.Native.Nat.{ℕ, suc, ◌+◌, ◌-◌, ◌*◌, ◌/◌, ◌%◌, ◌<◌, ◌≤◌}
use native.Mathlib.Nat.{add-zero}
use native.Mathlib.Numerals.{add-one}
use native.Mathlib.Omega.{arith}
use lib.Dec.{ltb}
use lib.ListN.{length, get_or, set, take, drop, length-append}
use lib.Seq.{sets, sets-eq, set_out, length-sets, take-suc, take_all}
use borrow.Author.Tests.{ltb-true, ltb-false}
use Rattle.text.proofs.Digits.{hex_append}
use Rattle.text.specs.Lines.{digit_of, hex_of}
use Rattle.text.specs.Writing.{text_of}
use Rattle.digits.specs.Room.{Wrote}

-- Stores of two lists, one behind the other.
sets_append : (us vs l : List ℕ) (i : ℕ) → sets l i (us ++ vs) ≡ sets (sets l i us) (i + length us) vs
sets_append [] vs l i = ap (λ (k : ℕ). sets l k vs) (sym (add-zero i))
sets_append (u ∷ us) vs l i = sets_append us vs (set l i u) (suc i) ∙ ap (λ (k : ℕ). sets (sets (set l i u) (suc i) us) k vs) place
  where
    place : suc i + length us ≡ i + suc (length us)
    place = omega arith

-- Nothing is written.
pub wrote_none : (R : List ℕ) (at : ℕ) → Wrote R at [] R at
wrote_none R at = record { bytes = refl; end = omega arith }

-- The room stays as long.
pub wrote_long : {R ws S : List ℕ} {at next : ℕ} → Wrote R at ws S next → length S ≡ length R
wrote_long {R} {ws} {S} {at} {next} w = ap length w.bytes ∙ length-sets R at ws

-- A byte that has no place is left out.
pub wrote_outside : (R : List ℕ) (at b : ℕ) → length R ≤ at → Wrote R at (b ∷ []) R (at + 1)
wrote_outside R at b h = record { bytes = sym (set_out R at b h); end = omega arith }

-- Two digits are written at their places.
pub wrote_digits : (R : List ℕ) (at h l b : ℕ) → h ≡ digit_of (b / 16) → l ≡ digit_of (b % 16)
    → Wrote R at (hex_of (b ∷ [])) (set (set R at h) (at + 1) l) (at + 2)
unfolding hex_of
wrote_digits R at h l b e d = record { bytes = λ i. set (set R at (e i)) (add-one at i) (d i); end = omega arith }

-- Bytes are written behind bytes.
pub wrote_then : {R us S vs T : List ℕ} {a b c : ℕ} → Wrote R a us S b → Wrote S b vs T c → Wrote R a (us ++ vs) T c
wrote_then {R} {us} {S} {vs} {T} {a} {b} {c} w v =
    record {
      bytes = v.bytes ∙ ap (λ (l : List ℕ). sets l b vs) w.bytes ∙ ap (λ (k : ℕ). sets (sets R a us) k vs) w.end ∙ sym (sets_append us vs R a);
      end = omega (arith, w.end, v.end, length-append us vs);
    }

-- The same bytes are written.
pub wrote_as : {R us vs S : List ℕ} {a b : ℕ} → us ≡ vs → Wrote R a us S b → Wrote R a vs S b
wrote_as {R} {us} {vs} {S} {a} {b} e w = subst (λ (l : List ℕ). Wrote R a l S b) e w

-- The same place stands behind them.
pub wrote_next : {R ws S : List ℕ} {at n m : ℕ} → m ≡ n → Wrote R at ws S n → Wrote R at ws S m
wrote_next e w = record { bytes = w.bytes; end = e ∙ w.end }

-- They are written into the same room, from the same place on.
pub wrote_from : {P R ws S : List ℕ} {p at n : ℕ} → (P ≡ R) × (p ≡ at) → Wrote P p ws S n → Wrote R at ws S n
wrote_from {P} {R} {ws} {S} {p} {at} {n} e w =
    record { bytes = w.bytes ∙ ap₂ (λ (l : List ℕ) (k : ℕ). sets l k ws) e.0 e.1; end = w.end ∙ ap (λ (k : ℕ). k + length ws) e.1 }

-- The digits of a byte that is another's.
pub wrote_byte : {R S : List ℕ} {a b n m : ℕ} → n ≡ m → Wrote R a (hex_of (n ∷ [])) S b → Wrote R a (hex_of (m ∷ [])) S b
wrote_byte e w = wrote_as (ap (λ (k : ℕ). hex_of (k ∷ [])) e) w

-- A word is written behind its length byte.
pub wrote_text : {R S T : List ℕ} {a b c : ℕ} (n : ℕ) (u : List ℕ) → n ≡ length u → Wrote R a (hex_of (n ∷ [])) S b → Wrote S b (hex_of u) T c
    → Wrote R a (hex_of (text_of u)) T c
wrote_text n u e w v = wrote_as (sym (hex_append (n ∷ []) u) ∙ ap (λ (k : ℕ). hex_of (k ∷ u)) e) (wrote_then w v)

-- Bytes that fit are the first of the room, and the rest is unchanged.
pub wrote_filled : {R ws S : List ℕ} {n : ℕ} → Wrote R 0 ws S n → length ws ≤ length R → S ≡ ws ++ drop (length ws) R
wrote_filled {R} {ws} {S} {n} w h = w.bytes ∙ sets-eq ws R 0 (omega arith) ∙ ap (λ (k : ℕ). ws ++ drop k R) place
  where
    place : 0 + length ws ≡ length ws
    place = omega arith

-- One byte more, two digits more.
pub hex_more : (bs : List ℕ) (i : ℕ) → i < length bs → hex_of (take i bs) ++ hex_of (get_or bs i 0 ∷ []) ≡ hex_of (take (i + 1) bs)
hex_more bs i h = sym (hex_append (take i bs) (get_or bs i 0 ∷ [])) ∙ ap hex_of (sym (take-suc bs i 0 h)) ∙ ap (λ (k : ℕ). hex_of (take k bs)) (sym (add-one i))

-- The digit of a value, without a test.
pub digit_plain : (v : ℕ) → v < 16 → v + 48 + (v + 6) / 16 * 39 ≡ digit_of v
unfolding digit_of
digit_plain v h = go (ltb v 10) refl
  where
    go : (t : Bool) → ltb v 10 ≡ t → v + 48 + (v + 6) / 16 * 39 ≡ elim t [ true ↦ 0x30 + v | false ↦ 0x61 + (v - 10) ]
    go true e = omega (arith, ltb-true v 10 e)
    go false e = omega (arith, ltb-false v 10 e)

-- The digits of all bytes.
pub hex_all : (bs : List ℕ) (i : ℕ) → length bs ≤ i → hex_of (take i bs) ≡ hex_of bs
hex_all bs i h = ap hex_of (take_all i bs h)
