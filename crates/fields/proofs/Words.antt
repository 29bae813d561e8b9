-- Word fields: what the bytes at a place give, and what an answer says of them.
use mathlib.Core.Path.{◌≡◌, refl, sym, ap, ◌∙◌}
use mathlib.Core.List.{List}
use Prim.Native.Nat.{ℕ, ◌+◌, ◌-◌, ◌<◌, ◌≤◌}
use native.Mathlib.Omega.{arith}
use lib.ListN.{length}
use lib.Seq.{slice, length-slice, length-take-le}
use Rattle.words.specs.Word.{Word}
use Rattle.text.specs.Fields.{Parsed, got, fault, within, letters, text}
use Rattle.text.proofs.Fields.{then_got, within_inv}
use Rattle.text.proofs.Faults.{letters_there, letters_lacking}
use Rattle.std.specs.Prelude.{Result, Ok, Err, IsErrAnd}
use Rattle.fields.specs.Read.{number_of, NumberRead, WordRead}
use Rattle.fields.specs.declared.Fault.{Fault}
use Rattle.fields.specs.declared.Fault.TheVariants.{WrongLength}
use Rattle.fields.proofs.Slices.{slice_take, slice_drop}
use Rattle.fields.proofs.Numbers.{handed_on, IsNumber, fault_number}

-- ---- what is refused, and what is read

-- The length is refused.
pub text_length : (bs : List ℕ) (k : ℕ) → within 0 32 bs ≡ fault k → text bs ≡ fault k
unfolding text
text_length bs k e = rw e

module _ (F : List ℕ) (at end v then : ℕ) (inside : end ≤ length F) (i : IsNumber F at end v then (within 0 32 (slice at end F))) where
  -- Behind the length stand the letters.
  text_letters : text (slice at end F) ≡ letters v (slice then end F)
  unfolding text
  text_letters = then_got _ letters v (slice then end F) i.read

  -- The letters run past the end.
  pub word_lacking : end - then < v → WordRead F at end then (text (slice at end F)) (Err WrongLength)
  word_lacking h = rw (text_letters, letters_lacking v (slice then end F) (omega (arith, length-slice then end F inside))) refl

  -- The word is whole.
  pub word_got : v ≤ end - then → WordRead F at end (then + v) (text (slice at end F)) (Ok v)
  word_got h =
      let k : v ≤ length (slice then end F) = omega (arith, length-slice then end F inside) in
      rw (text_letters, letters_there v (slice then end F) k)
      (record {
        value = sym (length-take-le v (slice then end F) k);
        short = (within_inv 0 32 (slice at end F) v (slice then end F) i.read).1;
        word = slice_take then end v F (omega (arith, i.inside)) ∙ ap (λ x. slice x (then + v) F) i.next;
        left = slice_drop then end v F;
        next = omega (arith, i.next);
        inside = omega (arith, i.inside);
      })

-- ---- from what is read to the answer, and back

-- A word that is refused.
pub word_fault : (F : List ℕ) (at end then : ℕ) (e : Fault) (r : Result ℕ Fault) → IsErrAnd r (λ x. x ≡ e)
    → NumberRead F at end then (within 0 32 (slice at end F)) (Err e) → WordRead F at end then (text (slice at end F)) r
word_fault F at end then e r h w =
    rw (handed_on r e h, text_length (slice at end F) (number_of e) (fault_number F at end then _ e w)) refl

-- The word at `at` is read.
pub record IsWord (F : List ℕ) (at end n then : ℕ) (o : Parsed Word) : Type 0 where
  pub read : o ≡ got (slice (at + 1) then F) (slice then end F)
  pub long : n ≡ length (slice (at + 1) then F)
  pub short : n ≤ 32
  pub next : then ≡ at + 1 + n
  pub inside : then ≤ end

-- An answer with a length says that the word is read.
pub got_word : (F : List ℕ) (at end n then : ℕ) (o : Parsed Word) → WordRead F at end then o (Ok n) → IsWord F at end n then o
got_word F at end n then (got u bs) w =
    record { read = cc (w.word, w.left); long = w.value ∙ ap length w.word; short = w.short; next = w.next; inside = w.inside }
got_word F at end n then (fault k) h = absurd h

-- An answer with a fault says that it is refused.
pub fault_word : (F : List ℕ) (at end then : ℕ) (o : Parsed Word) (e : Fault) → WordRead F at end then o (Err e) → o ≡ fault (number_of e)
fault_word F at end then (got u bs) e h = absurd h
fault_word F at end then (fault k) e h = ap fault (sym h)
