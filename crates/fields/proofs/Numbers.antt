-- Number fields: what the bytes at a place give, and what an answer says of them.
use mathlib.Core.Path.{◌≡◌, refl, sym, ap}
use mathlib.Core.List.{List, [], ◌∷◌}
use Prim.Native.Nat.{ℕ, ◌+◌, ◌≤◌}
use native.Mathlib.Omega.{arith}
use lib.ListN.{length}
use lib.Seq.{slice}
use Rattle.text.specs.Fields.{Parsed, Field, got, fault}
use Rattle.std.specs.Prelude.{Result, Ok, Err, IsErrAnd}
use Rattle.fields.specs.Read.{number_of, Byte, ByteRead, NumberRead}
use Rattle.fields.specs.declared.Fault.{Fault}
use Rattle.fields.proofs.Slices.{slice_none, slice_byte}

-- What is handed on is the same fault.
pub handed_on : {A : Type 0} (r : Result A Fault) (e : Fault) → IsErrAnd r (λ x. x ≡ e) → r ≡ Err e
handed_on (Ok a) e h = absurd h
handed_on (Err x) e h = ap (λ y. Err y) h

-- ---- from what is read to the answer

-- At the end of the frame there is no byte: the field is refused.
pub byte_lacking : (p : Field ℕ) (F : List ℕ) (at end then : ℕ) (e : Fault) (r : Result ℕ Fault) → IsErrAnd r (λ x. x ≡ e)
    → ByteRead F at end then (Err e) → p [] ≡ fault 5 → NumberRead F at end then (p (slice at end F)) r
byte_lacking p F at end then e r h (f, g) k = rw (handed_on r e h, g, slice_none F at end f, k) refl

module _ (p : Field ℕ) {F : List ℕ} {at end b then : ℕ} (y : Byte F at end b then) (inside : end ≤ length F) where
  -- The byte at `at` is refused.
  pub byte_refused : (e : Fault) → p (b ∷ slice (at + 1) end F) ≡ fault (number_of e) → NumberRead F at end then (p (slice at end F)) (Err e)
  byte_refused e f = rw (slice_byte F at end b y.before inside y.is, f) refl

  -- The byte at `at` is read.
  pub byte_read : p (b ∷ slice (at + 1) end F) ≡ got b (slice (at + 1) end F) → NumberRead F at end then (p (slice at end F)) (Ok b)
  byte_read f =
      rw (slice_byte F at end b y.before inside y.is, f)
      (record { value = refl; left = ap (λ n. slice n end F) (sym y.next); next = y.next; inside = omega (arith, y.before, y.next) })

-- ---- from the answer to what is read

-- The value v is read, and the bytes from `then` on are left.
pub record IsNumber (F : List ℕ) (at end v then : ℕ) (o : Parsed ℕ) : Type 0 where
  pub read : o ≡ got v (slice then end F)
  pub next : then ≡ at + 1
  pub inside : then ≤ end

-- An answer with a value says that it is read.
pub got_number : (F : List ℕ) (at end v then : ℕ) (o : Parsed ℕ) → NumberRead F at end then o (Ok v) → IsNumber F at end v then o
got_number F at end v then (got w bs) n = record { read = cc (n.value, n.left); next = n.next; inside = n.inside }
got_number F at end v then (fault k) h = absurd h

-- An answer with a fault says that it is refused.
pub fault_number : (F : List ℕ) (at end then : ℕ) (o : Parsed ℕ) (e : Fault) → NumberRead F at end then o (Err e) → o ≡ fault (number_of e)
fault_number F at end then (got w bs) e h = absurd h
fault_number F at end then (fault k) e h = ap fault (sym h)
