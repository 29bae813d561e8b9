-- What is read of a stream: its bytes are those written for the record, and its labels are in the list.
use mathlib.Core.Path.{◌≡◌, refl, sym, ap, subst, ◌∙◌}
use mathlib.Core.Bool.{Bool, true, false, not}
use mathlib.Core.List.{List, [], ◌∷◌, ◌++◌, append_assoc, append-nil}
use Prim.Native.Nat.{ℕ, suc, ◌+◌, ◌<◌, ◌≤◌}
use native.Mathlib.Omega.{arith}
use borrow.Author.Tests.{ltb-true, eqb-true, not-false}
use lib.Dec.{eqb, ltb}
use lib.ListN.{length}
use Rattle.words.specs.Reply.{Reply, given, refusal, ◌then◌, refuse_if}
use Rattle.words.proofs.Replies.{given_refused, given_injective, refuse_given, then_given}
use Rattle.records.specs.Records.{Element, Elements, element, empty, ◌&◌, Labels, Labelss, close, bytes_of, bytes_ofs}
use Rattle.records.specs.Stream.{Open, StreamStage, reading, ended, append, placed, closing, opening, step, ending, read_from, read_record}
use Rattle.records.specs.Causes.{begun, written, OpenLabels, StageLabels}

append_bytes : (xs es : Elements) → bytes_ofs (append xs es) ≡ bytes_ofs xs ++ bytes_ofs es
unfolding bytes_ofs
append_bytes empty es = refl
append_bytes (x & xs) es = ap (λ (z : List ℕ). bytes_of x ++ z) (append_bytes xs es) ∙ sym (append_assoc (bytes_of x) (bytes_ofs xs) (bytes_ofs es))

append_labels : (xs es : Elements) (a : ℕ) → Labelss a xs → Labelss a es → Labelss a (append xs es)
append_labels empty es a h k = k
append_labels (x & xs) es a h k = (h.0, append_labels xs es a h.1 k)

-- A whole element adds its bytes.
placed_written : (os : List Open) (e : Element) → written (placed os e) ≡ begun os ++ bytes_of e
unfolding bytes_ofs
placed_written [] e = refl
placed_written (o ∷ os) e =
    ap (λ (z : List ℕ). begun os ++ o.label ∷ z) (append_bytes o.inside (e & empty)
    ∙ ap (λ (z : List ℕ). bytes_ofs o.inside ++ z) (append-nil (bytes_of e)))
    ∙ sym (append_assoc (begun os) (o.label ∷ bytes_ofs o.inside) (bytes_of e))

placed_fine : (os : List Open) (e : Element) (a : ℕ) → OpenLabels a os → Labels a e → StageLabels a (placed os e)
placed_fine [] e a h k = k
placed_fine (o ∷ os) e a h k = (h.0, append_labels o.inside (e & empty) a h.1 (k, tt), h.2)

-- After a byte, one more byte was read.
pub record StageOnward (a : ℕ) (s : StreamStage) (b : ℕ) (s' : StreamStage) : Type 0 where
  pub is : written s' ≡ written s ++ b ∷ []
  pub fine : StageLabels a s → StageLabels a s'

closing_onward : (s : StreamStage) (a p : ℕ) (s' : StreamStage) → closing s p ≡ given s' → StageOnward a s close s'
unfolding bytes_of
closing_onward (reading []) a p s' e = absurd (given_refused s' 22 p (sym e))
closing_onward (reading (o ∷ os)) a p s' e =
    subst (λ (z : StreamStage). StageOnward a (reading (o ∷ os)) close z) (given_injective _ s' e)
    (record {
      is = placed_written os (element o.label o.inside) ∙ sym (append_assoc (begun os) (o.label ∷ bytes_ofs o.inside) (close ∷ []));
      fine = λ h. placed_fine os (element o.label o.inside) a h.2 (h.0, h.1);
    })
closing_onward (ended r) a p s' e = absurd (given_refused s' 22 p (sym e))

opening_onward : (s : StreamStage) (a l p : ℕ) (s' : StreamStage) → l < a → opening l s p ≡ given s' → StageOnward a s l s'
unfolding bytes_ofs
opening_onward (reading os) a l p s' m e =
    subst (λ (z : StreamStage). StageOnward a (reading os) l z) (given_injective _ s' e) (record { is = refl; fine = λ h. (m, tt, h) })
opening_onward (ended r) a l p s' m e = absurd (given_refused s' 23 p (sym e))

pub step_onward : (a : ℕ) (s : StreamStage) (p b : ℕ) (s' : StreamStage) → step a s p b ≡ given s' → StageOnward a s b s'
step_onward a s p b s' e = go (eqb b close) refl e
  where
    go : (t : Bool) → eqb b close ≡ t → ◌≡◌ {A = Reply StreamStage} (elim t [ true ↦ closing s p | false ↦ refuse_if (not (ltb b a)) 21 p (opening b s p) ])
        (given s') → StageOnward a s b s'
    go true i k = subst (λ (z : ℕ). StageOnward a s z s') (sym (eqb-true b close i)) (closing_onward s a p s' k)
    go false i k =
        let j = refuse_given (not (ltb b a)) 21 p (opening b s p) s' k in
        opening_onward s a b p s' (ltb-true b a (not-false (ltb b a) j.0)) j.1

-- At the end the root has ended.
ending_given : (s : StreamStage) (p : ℕ) (r : Element) → ending s p ≡ given r → s ≡ ended r
ending_given (reading os) p r e = absurd (given_refused r 22 p (sym e))
ending_given (ended x) p r e = ap ended (given_injective x r e)

-- Reading on from a stage gives a record of which its bytes and those to come are the stream.
pub from_sound : (bs : List ℕ) (a : ℕ) (s : StreamStage) (p : ℕ) (r : Element) → read_from a s p bs ≡ given r
    → (written s ++ bs ≡ bytes_of r) × (StageLabels a s → Labels a r)
unfolding read_from
from_sound [] a s p r e = let i = ending_given s p r e in (append-nil (written s) ∙ ap written i, λ h. subst (StageLabels a) i h)
from_sound (b ∷ bs) a s p r e =
    let i = then_given (step a s p b) _ r e in
    let o = step_onward a s p b i.0 i.1 in
    let k = from_sound bs a i.0 (suc p) r i.2 in
    (sym (append_assoc (written s) (b ∷ []) bs) ∙ ap (λ (z : List ℕ). z ++ bs) (sym o.is) ∙ k.0, λ h. k.1 (o.fine h))

-- Theorem. Each accepted stream is the one that is written for the record, whose labels are in the list.
pub read_sound : (a : ℕ) (s : List ℕ) (r : Element) → read_record a s ≡ given r → (s ≡ bytes_of r) × Labels a r
unfolding read_record
read_sound a s r e = let i = from_sound s a (reading []) 0 r e in (i.0, i.1 tt)

-- ---- refusals
-- A refusal is 21, 22 or 23, from place p to place q.
abbrev pub ReadTold : ℕ → ℕ → Reply Element → Type 0
ReadTold p q (given r) = Unit {0}
ReadTold p q (refusal x) = (21 ≤ x.number) × (x.number ≤ 23) × (p ≤ x.place) × (x.place ≤ q)

abbrev StepTold : ℕ → Reply StreamStage → Type 0
StepTold p (given s) = Unit {0}
StepTold p (refusal x) = (21 ≤ x.number) × (x.number ≤ 23) × (x.place ≡ p)

closing_told : (s : StreamStage) (p : ℕ) → StepTold p (closing s p)
closing_told (reading []) p = (omega arith, omega arith, refl)
closing_told (reading (o ∷ os)) p = tt
closing_told (ended r) p = (omega arith, omega arith, refl)

opening_told : (s : StreamStage) (l p : ℕ) → StepTold p (opening l s p)
opening_told (reading os) l p = tt
opening_told (ended r) l p = (omega arith, omega arith, refl)

step_told : (a : ℕ) (s : StreamStage) (p b : ℕ) → StepTold p (step a s p b)
step_told a s p b = go (eqb b close) (not (ltb b a))
  where
    go : (t u : Bool) → StepTold p (elim t [ true ↦ closing s p | false ↦ refuse_if u 21 p (opening b s p) ])
    go true u = closing_told s p
    go false true = (omega arith, omega arith, refl)
    go false false = opening_told s b p

then_told : (o : Reply StreamStage) (k : StreamStage → Reply Element) (p q : ℕ) → p < q → StepTold p o
    → ((s : StreamStage) → ReadTold (suc p) q (k s)) → ReadTold p q (o then k)
then_told (given s) k p q l h f = wider (k s) (f s)
  where
    wider : (o : Reply Element) → ReadTold (suc p) q o → ReadTold p q o
    wider (given r) h = tt
    wider (refusal x) h = (h.0, h.1, omega arith, h.3)
then_told (refusal x) k p q l h f = (h.0, h.1, omega arith, omega arith)

ending_told : (s : StreamStage) (p q : ℕ) → p ≡ q → ReadTold p q (ending s p)
ending_told (reading os) p q e = (omega arith, omega arith, omega arith, omega arith)
ending_told (ended r) p q e = tt

pub from_told : (bs : List ℕ) (a : ℕ) (s : StreamStage) (p q : ℕ) → p + length bs ≡ q → ReadTold p q (read_from a s p bs)
unfolding read_from
from_told [] a s p q e = ending_told s p q (omega arith)
from_told (b ∷ bs) a s p q e =
    then_told (step a s p b) (λ z. read_from a z (suc p) bs) p q (omega arith) (step_told a s p b) (λ z. from_told bs a z (suc p) q (omega arith))

-- Theorem. Every stream is given or refused with 21, 22 or 23, at a place of at most its length.
pub read_told : (a : ℕ) (s : List ℕ) → ReadTold 0 (length s) (read_record a s)
unfolding read_record
read_told a s = from_told s a (reading []) 0 (length s) (omega arith)
