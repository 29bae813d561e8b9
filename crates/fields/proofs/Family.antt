-- A child's fields: what the bytes at a place give, and what an answer says of them.
use mathlib.Core.Path.{◌≡◌, refl, sym, ap}
use mathlib.Core.List.{List}
use Prim.Native.Nat.{ℕ, ◌+◌, ◌<◌, ◌≤◌}
use native.Mathlib.Omega.{arith}
use lib.ListN.{length}
use lib.Seq.{slice}
use Rattle.words.specs.Word.{Word}
use Rattle.machine.specs.Machine.{Child}
use Rattle.text.specs.Fields.{Parsed, got, fault, below, text}
use Rattle.text.proofs.Fields.{then_inv, below_inv}
use Rattle.std.specs.Prelude.{Result, Ok, Err, IsErrAnd}
use Rattle.fields.specs.Read.{number_of, one_child, ChildRead}
use Rattle.fields.specs.declared.Fault.{Fault}
use Rattle.fields.specs.declared.OneChild.{OneChild}
use Rattle.fields.proofs.Numbers.{handed_on, IsNumber}
use Rattle.fields.proofs.Words.{IsWord}

-- ---- what is refused, and what is read

-- The state is refused.
pub state_fault : (states : ℕ) (bs : List ℕ) (k : ℕ) → below states bs ≡ fault k → one_child states bs ≡ fault k
unfolding one_child
state_fault states bs k e = rw e

-- The word is refused.
pub after_fault : (states : ℕ) (bs : List ℕ) (q k : ℕ) (s : List ℕ) → below states bs ≡ got q s → text s ≡ fault k
    → one_child states bs ≡ fault k
unfolding one_child
after_fault states bs q k s e f = rw (e, f)

-- Both are read.
child_read : (states : ℕ) (bs : List ℕ) (q : ℕ) (s : List ℕ) (u : Word) (r : List ℕ) → below states bs ≡ got q s → text s ≡ got u r
    → one_child states bs ≡ got (record { state = q; after = u }) r
unfolding one_child
child_read states bs q s u r e f = rw (e, f)

-- A child that is read has a state of the table.
pub child_below : (states : ℕ) (bs : List ℕ) (c : Child) (r : List ℕ) → one_child states bs ≡ got c r → c.state < states
unfolding one_child
child_below states bs c r e =
    then_inv (below states bs) _ c r e λ q s i e₁. then_inv (text s) _ c r e₁ λ u t j e₂.
    let x : q ≡ c.state = cc in
    omega (arith, (below_inv states bs q s i).0)

-- ---- from what is read to the answer, and back

-- A child that is refused.
pub child_fault : (F : List ℕ) (at end then : ℕ) (o : Parsed Child) (e : Fault) (r : Result OneChild Fault) → IsErrAnd r (λ x. x ≡ e)
    → o ≡ fault (number_of e) → ChildRead F at end then o r
child_fault F at end then o e r h f = rw (handed_on r e h, f) refl

-- A child that is read.
pub child_got : (F : List ℕ) (at end states q u n then : ℕ) → IsNumber F at end q u (below states (slice at end F))
    → IsWord F u end n then (text (slice u end F))
    → ChildRead F at end then (one_child states (slice at end F)) (Ok (record { state = q; letters = n }))
child_got F at end states q u n then i w =
    rw (child_read states (slice at end F) q (slice u end F) (slice (u + 1) then F) (slice then end F) i.read w.read)
    (record { state = refl; left = refl; next = omega (arith, i.next, w.next); inside = w.inside; letters = w.long; short = w.short })

-- A child is read, and the bytes from `then` on are left.
pub record IsChild (F : List ℕ) (at end q then n : ℕ) (o : Parsed Child) : Type 0 where
  pub child : Child
  pub read : o ≡ got child (slice then end F)
  pub state : q ≡ child.state
  pub letters : n ≡ length child.after
  pub short : n ≤ 32
  pub next : at + 2 ≤ then
  pub inside : then ≤ end

-- An answer with a state says that the child is read.
pub got_child : (F : List ℕ) (at end then : ℕ) (o : Parsed Child) (k : OneChild) → ChildRead F at end then o (Ok k)
    → IsChild F at end k.state then k.letters o
got_child F at end then (got c bs) k w =
    record { child = c; read = ap (got c) w.left; state = w.state; letters = w.letters; short = w.short; next = w.next; inside = w.inside }
got_child F at end then (fault n) k h = absurd h

-- An answer with a fault says that it is refused.
pub fault_child : (F : List ℕ) (at end then : ℕ) (o : Parsed Child) (e : Fault) → ChildRead F at end then o (Err e) → o ≡ fault (number_of e)
fault_child F at end then (got c bs) e h = absurd h
fault_child F at end then (fault k) e h = ap fault (sym h)
