-- The children's fields, one child after the other.
use mathlib.Core.Path.{◌≡◌, refl, sym, ap, ◌∙◌}
use mathlib.Core.List.{List, [], ◌∷◌, ◌++◌, append-nil}
use Prim.Native.Nat.{ℕ, zero, suc, ◌+◌, ◌-◌, ◌*◌, ◌^◌, ◌<◌, ◌≤◌}
use native.Mathlib.Numerals.{sub-one}
use native.Mathlib.Omega.{arith}
use lib.ListN.{length, length-append}
use lib.Seq.{slice, append_snoc}
use Rattle.machine.specs.Machine.{Child}
use Rattle.layout.specs.Layout.{rest_letters, first_state, later_states}
use Rattle.text.specs.Fields.{Parsed, got, fault, Field, and_then, below, text, children}
use Rattle.text.proofs.Fields.{then_inv}
use Rattle.std.specs.Prelude.{Result, Ok, Err, IsErrAnd}
use Rattle.fields.specs.Read.{number_of, one_child, Family, KidsRead, FirstAfter, RestAfter}
use Rattle.fields.specs.declared.Fault.{Fault}
use Rattle.fields.specs.declared.Kids.{Kids}
use Rattle.fields.proofs.Numbers.{handed_on}
use Rattle.fields.proofs.Packed.{first_snoc, later_snoc, LaterRoom, room_none, room_more, packed_right}
use Rattle.fields.proofs.Family.{IsChild, child_below}

-- Children in front of others.
abbrev pub front : List Child → Parsed (List Child) → Parsed (List Child)
front acc (got cs bs) = got (acc ++ cs) bs
front acc (fault n) = fault n

-- No children in front change nothing.
pub front_none : (o : Parsed (List Child)) → o ≡ front [] o
front_none (got cs bs) = refl
front_none (fault n) = refl

-- One child more goes to those in front.
front_snoc : (acc : List Child) (c : Child) (o : Parsed (List Child)) → front acc (front (c ∷ []) o) ≡ front (acc ++ c ∷ []) o
front_snoc acc c (got cs bs) = ap (λ x. got x bs) (sym (append_snoc acc c cs))
front_snoc acc c (fault n) = refl

-- One child in front.
front_cons : (c : Child) (o : Parsed (List Child)) → and_then o (λ cs bs. got (c ∷ cs) bs) ≡ front (c ∷ []) o
front_cons c (got cs bs) = refl
front_cons c (fault n) = refl

-- Where two readers refuse, the first has refused, or it has read and the second has refused.
then_fault : {A B : Type 0} {P : Type 0} (p : Parsed A) (k : A → Field B) (n : ℕ) → and_then p k ≡ fault n → (p ≡ fault n → P)
    → ((a : A) (s : List ℕ) → p ≡ got a s → k a s ≡ fault n → P) → P
then_fault (got a s) k n e f g = g a s refl e
then_fault (fault m) k n e f g = f (cc)

-- ---- one step

-- A child that is refused.
children_fault : (states k : ℕ) (bs : List ℕ) (n : ℕ) → 0 < k → one_child states bs ≡ fault n → children states k bs ≡ fault n
unfolding children one_child
children_fault states zero bs n h e = absurd (omega arith)
children_fault states (suc k) bs n h e =
    then_fault (below states bs) _ n e (λ f. rw f) λ q t i e₁.
    then_fault (text t) _ n e₁ (λ f. rw (i, f)) λ u r j e₂. absurd (let z : ◌≡◌ {A = ℕ} 0 1 = cc in omega arith)

-- A child that is read, and those behind it.
children_more : (states k : ℕ) (bs : List ℕ) (c : Child) (s : List ℕ) → 0 < k → one_child states bs ≡ got c s
    → children states k bs ≡ front (c ∷ []) (children states (k - 1) s)
unfolding children one_child
children_more states zero bs c s h e = absurd (omega arith)
children_more states (suc k) bs c s h e =
    then_inv (below states bs) _ c s e λ q t i e₁. then_inv (text t) _ c s e₁ λ u r j e₂.
    let x : record { state = q; after = u } ≡ c = cc in
    let y : r ≡ s = cc in
    rw (sub-one, i, j, ← x, ← y) (front_cons (record { state = q; after = u }) (children states k r))

-- No child is left.
children_none : (states k : ℕ) (bs : List ℕ) → k ≤ 0 → children states k bs ≡ got [] bs
unfolding children
children_none states zero bs h = refl
children_none states (suc k) bs h = absurd (omega arith)

-- The letters of the words behind one child more.
letters_snoc : (cs : List Child) (c : Child) → rest_letters (cs ++ c ∷ []) ≡ rest_letters cs + length c.after
unfolding rest_letters
letters_snoc [] c = omega arith
letters_snoc (d ∷ cs) c = omega (arith, letters_snoc cs c)

-- ---- all steps so far

-- The children acc, `done` of them, are read, and `left` children are to be read from `next` on.
pub record KidsSoFar (F : List ℕ) (at end states count next letters first rest done : ℕ) : Type 0 where
  pub acc : List Child
  pub left : ℕ
  pub as_many : done ≡ length acc
  pub number : done + left ≡ count
  pub from : at ≤ next
  pub inside : next ≤ end
  pub remains : children states count (slice at end F) ≡ front acc (children states left (slice next end F))
  pub all_letters : letters ≡ rest_letters acc
  pub few : letters ≤ 32 * done
  pub first_state_lem : first ≡ first_state acc
  pub first_small : first < 64
  pub later_states_lem : rest ≡ later_states acc
  pub room : LaterRoom done rest

-- Nothing is read yet.
pub begin : (F : List ℕ) (at end states count : ℕ) → at ≤ end → KidsSoFar F at end states count at 0 0 0 0
unfolding rest_letters first_state later_states
begin F at end states count h = record {
  acc = [];
  left = count;
  as_many = refl;
  number = omega arith;
  from = omega arith;
  inside = h;
  remains = front_none _;
  all_letters = refl;
  few = omega arith;
  first_state_lem = refl;
  first_small = omega arith;
  later_states_lem = refl;
  room = room_none;
}

module _ {F : List ℕ} {at end states count next letters first rest done : ℕ} (b : KidsSoFar F at end states count next letters first rest done) where
  -- A child is refused.
  pub begun_fault : (then : ℕ) (e : Fault) (r : Result Kids Fault) → IsErrAnd r (λ x. x ≡ e) → done < count
      → one_child states (slice next end F) ≡ fault (number_of e) → KidsRead F at end then (children states count (slice at end F)) r
  begun_fault then e r h k f =
      rw (handed_on r e h, b.remains, children_fault states b.left (slice next end F) (number_of e) (omega (arith, b.number)) f) refl

  -- A child is read.
  pub begun_more : (q then n v w : ℕ) → done < count → states ≤ 64 → IsChild F next end q then n (one_child states (slice next end F))
      → FirstAfter done first q v → RestAfter done rest q w → KidsSoFar F at end states count then (letters + n) v w (done + 1)
  begun_more q then n v w h k i x y =
      let c : Child = i.child in
      let l = length-append b.acc (c ∷ []) in
      let some : 0 < b.left = omega (arith, b.number) in
      let lt : q < 64 = omega (arith, child_below states (slice next end F) c (slice then end F) i.read, i.state) in
      record {
        acc = b.acc ++ c ∷ [];
        left = b.left - 1;
        as_many = omega (arith, b.as_many, l);
        number = omega (arith, b.number);
        from = omega (arith, b.from, i.next);
        inside = i.inside;
        remains =
            b.remains ∙ ap (front b.acc) (children_more states b.left (slice next end F) c (slice then end F) some i.read) ∙
            front_snoc b.acc c (children states (b.left - 1) (slice then end F));
        all_letters = omega (arith, b.all_letters, i.letters, letters_snoc b.acc c);
        few = omega (arith, b.few, i.short);
        first_state_lem = first_snoc b.acc c done first q v b.as_many b.first_state_lem i.state x;
        first_small = x.small;
        later_states_lem = later_snoc b.acc c done rest q w b.as_many b.later_states_lem i.state y;
        room = room_more done rest q w lt y b.room;
      }

  -- All children are read.
  pub begun_all : (x : ℕ) → count ≤ done → count ≤ 4 → x ≡ first * 2 ^ 21 + rest * 2 ^ 31 + count * 2 ^ 61 → x < 5 * 2 ^ 61
      → KidsRead F at end next (children states count (slice at end F)) (Ok (record { letters = letters; packed = x }))
  begun_all x h k e m =
      let l : length b.acc ≡ count = omega (arith, b.as_many, b.number) in
      let r : children states count (slice at end F) ≡ got b.acc (slice next end F) =
      b.remains ∙ ap (front b.acc) (children_none states b.left (slice next end F) (omega (arith, b.number))) ∙
      ap (λ x. got x (slice next end F)) (append-nil b.acc) in
      rw r (record {
        left = refl;
        from = b.from;
        inside = b.inside;
        letters = b.all_letters;
        packed = packed_right b.acc first rest count x b.first_state_lem b.later_states_lem l e;
        few = omega (arith, b.few, b.number);
        small = m;
      })

-- ---- from the answer to what is read

-- The children are read, and the bytes from `then` on are left.
pub record IsFamily (F : List ℕ) (at end then n x : ℕ) (o : Parsed (List Child)) : Type 0 where
  pub read_children : List Child
  pub read : o ≡ got read_children (slice then end F)
  pub family : Family F (slice then end F) read_children at end then n x

-- An answer with a packed number says so.
pub got_kids : (F : List ℕ) (at end then : ℕ) (o : Parsed (List Child)) (k : Kids) → KidsRead F at end then o (Ok k)
    → IsFamily F at end then k.letters k.packed o
got_kids F at end then (got cs bs) k f = record { read_children = cs; read = ap (got cs) f.left; family = rw f.left at f }
got_kids F at end then (fault n) k h = absurd h

-- An answer with a fault says that they are refused.
pub fault_kids : (F : List ℕ) (at end then : ℕ) (o : Parsed (List Child)) (e : Fault) → KidsRead F at end then o (Err e) → o ≡ fault (number_of e)
fault_kids F at end then (got cs bs) e h = absurd h
fault_kids F at end then (fault k) e h = ap fault (sym h)
