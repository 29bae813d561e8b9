-- A rule's fields behind its symbol: what the bytes at a place give, and what an answer says of them.
use mathlib.Core.Path.{◌≡◌, refl, sym, ap}
use mathlib.Core.List.{List}
use Prim.Native.Nat.{ℕ, ◌+◌, ◌*◌, ◌≤◌}
use native.Mathlib.Omega.{arith}
use lib.Seq.{slice}
use Rattle.words.specs.Word.{Word}
use Rattle.machine.specs.Machine.{Child, Rule}
use Rattle.text.specs.Fields.{Parsed, got, fault, text, children}
use Rattle.layout.specs.Layout.{rule_letters, kids_packed, entry_of}
use Rattle.std.specs.Prelude.{Result, Ok, Err, IsErrAnd}
use Rattle.fields.specs.Read.{number_of, WordRead, KidsRead}
use Rattle.fields.specs.declared.Fault.{Fault}
use Rattle.fields.proofs.Numbers.{handed_on}
use Rattle.fields.proofs.Words.{IsWord, fault_word}
use Rattle.fields.proofs.Siblings.{IsFamily, fault_kids}
use Rattle.rule_frames.specs.Kept.{rule_field, RuleRead}

-- ---- what is refused

module _ (F : List ℕ) (i at end then states k : ℕ) (e : Fault) (r : Result ℕ Fault) (told : IsErrAnd r (λ x. x ≡ e)) where
  -- The word u0 is refused.
  pub first_stops : (behind : ℕ) → WordRead F at end behind (text (slice at end F)) (Err e)
      → RuleRead F i at end then (rule_field states k (slice at end F)) r
  unfolding rule_field
  first_stops behind w = rw (handed_on r e told, fault_word F at end behind (text (slice at end F)) e w) refl

  -- The children are refused.
  pub rest_stops : (behind l next : ℕ) → IsWord F at end l behind (text (slice at end F))
      → KidsRead F behind end next (children states k (slice behind end F)) (Err e) → RuleRead F i at end then (rule_field states k (slice at end F)) r
  unfolding rule_field
  rest_stops behind l next u w = rw (handed_on r e told, u.read, fault_kids F behind end next (children states k (slice behind end F)) e w) refl

-- ---- what is read

-- Word and children are read.
rule_read : (states k : ℕ) (bs : List ℕ) (u : Word) (s : List ℕ) (cs : List Child) (t : List ℕ) → text bs ≡ got u s → children states k s ≡ got cs t
    → rule_field states k bs ≡ got (record { first = u; rest = cs }) t
unfolding rule_field
rule_read states k bs u s cs t e f = rw (e, f)

-- The sum that is packed is the rule's entry.
entry_sum : (i : ℕ) (u : Word) (cs : List Child) (n more packed x : ℕ) → n + more ≡ rule_letters (record { first = u; rest = cs })
    → packed ≡ kids_packed cs → x ≡ n + more + 256 + 512 * i + packed → x ≡ entry_of i (record { first = u; rest = cs })
unfolding entry_of
entry_sum i u cs n more packed x l p e = omega arith

-- A rule that is read.
pub rule_got : (F : List ℕ) (number at end states k n behind then more packed x : ℕ) → IsWord F at end n behind (text (slice at end F))
    → IsFamily F behind end then more packed (children states k (slice behind end F)) → x ≡ n + more + 256 + 512 * number + packed
    → RuleRead F number at end then (rule_field states k (slice at end F)) (Ok x)
unfolding rule_letters
rule_got F number at end states k n behind then more packed x w i e =
    let c = i.family in
    let u : Word = slice (at + 1) behind F in
    rw (rule_read states k (slice at end F) u (slice behind end F) i.read_children (slice then end F) w.read i.read)
    (record {
      left = refl;
      from = omega (arith, w.next, c.from);
      inside = c.inside;
      entry = entry_sum number u i.read_children n more packed x (omega (arith, w.long, c.letters)) c.packed e;
    })

-- ---- from the answer to what is read

-- Rule number i is read, x is kept for it, and the bytes from `then` on are left.
pub record IsRule (F : List ℕ) (i at end then x : ℕ) (o : Parsed Rule) : Type 0 where
  pub rule : Rule
  pub read : o ≡ got rule (slice then end F)
  pub from : at ≤ then
  pub inside : then ≤ end
  pub entry : x ≡ entry_of i rule

-- An answer with an entry says so.
pub got_rule : (F : List ℕ) (i at end then x : ℕ) (o : Parsed Rule) → RuleRead F i at end then o (Ok x) → IsRule F i at end then x o
got_rule F i at end then x (got u bs) w =
    record { rule = u; read = ap (got u) w.left; from = w.from; inside = w.inside; entry = w.entry }
got_rule F i at end then x (fault k) h = absurd h

-- An answer with a fault says that it is refused.
pub fault_rule : (F : List ℕ) (i at end then : ℕ) (o : Parsed Rule) (e : Fault) → RuleRead F i at end then o (Err e) → o ≡ fault (number_of e)
fault_rule F i at end then (got u bs) e h = absurd h
fault_rule F i at end then (fault k) e h = ap fault (sym h)
