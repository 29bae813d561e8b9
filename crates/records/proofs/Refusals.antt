-- A stream is refused with number n at place p exactly if there is the cause.
use mathlib.Core.Path.{◌≡◌, refl, sym, ap, subst, ◌∙◌}
use mathlib.Core.Bool.{Bool, true, false, not}
use mathlib.Core.List.{List, [], ◌∷◌, ◌++◌, append_assoc, append-nil}
use mathlib.Core.Logic.{⊎_elim, ◌↔◌}
use Prim.Native.Nat.{ℕ, suc, ◌+◌, ◌<◌, ◌≤◌}
use native.Mathlib.Omega.{arith}
use borrow.Author.Tests.{ltb-true, ltb-false, eqb-true, eqb-false, not-true, not-false, le-ltb, ne_eqb}
use lib.Dec.{eqb, ltb}
use lib.ListN.{length, length-append}
use Rattle.words.specs.Reply.{Reply, refused, ◌then◌, refuse_if}
use Rattle.words.proofs.Replies.{given_refused, refused_injective, refuse_refused, then_refused}
use Rattle.records.specs.Records.{Element, empty, close, bytes_of, bytes_ofs}
use Rattle.records.specs.Stream.{Open, StreamStage, reading, ended, closing, opening, step, ending, read_from, read_record}
use Rattle.records.specs.Causes.{begun, written, OpenLabels, StageLabels, Shut, StreamCause, strange, stray, unended, again}
use Rattle.records.proofs.Sound.{step_onward}
use Rattle.records.proofs.Complete.{label_step, element_read, elements_read}
use Rattle.records.proofs.Writing.{label_behind}

-- ---- from the refusal to its cause
closing_shut : (s : StreamStage) (p n q : ℕ) → closing s p ≡ refused n q → (n ≡ 22) × (q ≡ p) × Shut s
closing_shut (reading []) p n q e = let i = refused_injective {A = StreamStage} 22 p n q e in (i.0, i.1, tt)
closing_shut (reading (o ∷ os)) p n q e = absurd (given_refused _ n q e)
closing_shut (ended r) p n q e = let i = refused_injective {A = StreamStage} 22 p n q e in (i.0, i.1, tt)

opening_cause : (s : StreamStage) (a l p n q : ℕ) (bs : List ℕ) → p ≡ length (written s) → StageLabels a s → l < a → opening l s p ≡ refused n q
    → StreamCause a (written s ++ l ∷ bs) n q
opening_cause (reading os) a l p n q bs i h m e = absurd (given_refused _ n q e)
opening_cause (ended r) a l p n q bs i h m e = let j = refused_injective {A = StreamStage} 23 p n q e in again j.0 r h l bs m refl (j.1 ∙ i)

step_cause : (a : ℕ) (s : StreamStage) (p b n q : ℕ) (bs : List ℕ) → p ≡ length (written s) → StageLabels a s → step a s p b ≡ refused n q
    → StreamCause a (written s ++ b ∷ bs) n q
step_cause a s p b n q bs i h e = go (eqb b close) refl e
  where
    go : (t : Bool) → eqb b close ≡ t
        → ◌≡◌ {A = Reply StreamStage} (elim t [ true ↦ closing s p | false ↦ refuse_if (not (ltb b a)) 21 p (opening b s p) ]) (refused n q)
        → StreamCause a (written s ++ b ∷ bs) n q
    go true j k =
        let c = closing_shut s p n q k in
        stray c.0 s h c.2 bs (ap (λ (z : ℕ). written s ++ z ∷ bs) (eqb-true b close j)) (c.1 ∙ i)
    go false j k =
        ⊎_elim (λ c. strange c.1 s h b bs refl (c.2 ∙ i) (ltb-false b a (not-true (ltb b a) c.0)) (eqb-false b close j))
        (λ c. opening_cause s a b p n q bs i h (ltb-true b a (not-false (ltb b a) c.0)) c.1)
        (refuse_refused (not (ltb b a)) 21 p (opening b s p) n q k)

ending_cause : (s : StreamStage) (a p n q : ℕ) → p ≡ length (written s) → StageLabels a s → ending s p ≡ refused n q → StreamCause a (written s ++ []) n q
ending_cause (reading os) a p n q i h e =
    let j = refused_injective {A = Element} 22 p n q e in
    unended j.0 os h (append-nil (begun os)) (j.1 ∙ i ∙ ap length (sym (append-nil (begun os))))
ending_cause (ended r) a p n q i h e = absurd (given_refused r n q e)

from_cause : (bs : List ℕ) (a : ℕ) (s : StreamStage) (p n q : ℕ) → p ≡ length (written s) → StageLabels a s → read_from a s p bs ≡ refused n q
    → StreamCause a (written s ++ bs) n q
unfolding read_from
from_cause [] a s p n q i h e = ending_cause s a p n q i h e
from_cause (b ∷ bs) a s p n q i h e =
    ⊎_elim (λ c. step_cause a s p b n q bs i h c)
    (λ c. let o = step_onward a s p b c.0 c.1 in
    let j : suc p ≡ length (written c.0) = omega (arith, i, length-append (written s) (b ∷ [])) ∙ ap length (sym o.is) in
    let k : written c.0 ++ bs ≡ written s ++ b ∷ bs = ap (λ (z : List ℕ). z ++ bs) o.is ∙ append_assoc (written s) (b ∷ []) bs in
    subst (λ (z : List ℕ). StreamCause a z n q) k (from_cause bs a c.0 (suc p) n q j (o.fine h) c.2))
    (then_refused (step a s p b) _ n q e)

-- ---- from the cause to the refusal
module _ (a : ℕ) (m : a ≤ 255) where
  -- The bytes of open elements are read as these.
  begun_read : (os : List Open) (rest : List ℕ) → OpenLabels a os
      → read_from a (reading []) 0 (begun os ++ rest) ≡ read_from a (reading os) (length (begun os)) rest
  unfolding read_from
  begun_read [] rest h = refl
  begun_read (o ∷ os) rest h =
      let p = length (begun os) in
      let q : suc p + length (bytes_ofs o.inside) ≡ length (begun os ++ o.label ∷ bytes_ofs o.inside) = omega
      (arith, length-append (begun os) (o.label ∷ bytes_ofs o.inside)) in
      ap (read_from a (reading []) 0) (append_assoc (begun os) (o.label ∷ bytes_ofs o.inside) rest)
      ∙ begun_read os (o.label ∷ (bytes_ofs o.inside ++ rest)) h.2
      ∙ ap (λ (z : Reply StreamStage). z then λ s. read_from a s (suc p) (bytes_ofs o.inside ++ rest)) (label_step a os p o.label m h.0)
      ∙ elements_read o.inside a (record { label = o.label; inside = empty }) os (suc p) rest m h.1
      ∙ ap (λ (z : ℕ). read_from a (reading (o ∷ os)) z rest) q

  pub written_read : (s : StreamStage) (rest : List ℕ) → StageLabels a s
      → read_from a (reading []) 0 (written s ++ rest) ≡ read_from a s (length (written s)) rest
  written_read (reading os) rest h = begun_read os rest h
  written_read (ended r) rest h =
      let i : 0 + length (bytes_of r) ≡ length (bytes_of r) = omega arith in
      element_read r a [] 0 rest m h ∙ ap (λ (z : ℕ). read_from a (ended r) z rest) i

  shut_closing : (s : StreamStage) (p : ℕ) → Shut s → closing s p ≡ refused 22 p
  shut_closing (reading []) p h = refl
  shut_closing (reading (o ∷ os)) p h = absurd h
  shut_closing (ended r) p h = refl

  -- A byte that is refused where it stands.
  byte_refused : (s : StreamStage) (b : ℕ) (rest : List ℕ) (n : ℕ) → StageLabels a s
      → step a s (length (written s)) b ≡ refused n (length (written s)) → read_record a (written s ++ b ∷ rest) ≡ refused n (length (written s))
  unfolding read_record read_from
  byte_refused s b rest n h e =
      written_read s (b ∷ rest) h ∙ ap (λ (z : Reply StreamStage). z then λ t. read_from a t (suc (length (written s))) rest) e

  strange_step : (s : StreamStage) (p b : ℕ) → a ≤ b → (b ≡ close → ⊥) → step a s p b ≡ refused 21 p
  strange_step s p b l h = rw (step, ne_eqb b 255 h, le-ltb b a l)

  unended_read : (os : List Open) → OpenLabels a os → read_record a (begun os) ≡ refused 22 (length (begun os))
  unfolding read_record read_from
  unended_read os h = ap (read_from a (reading []) 0) (sym (append-nil (begun os))) ∙ begun_read os [] h

  cause_refused : (s : List ℕ) (n p : ℕ) → StreamCause a s n p → read_record a s ≡ refused n p
  cause_refused s n p (strange i t h b rest j k l g) = rw (i, j, k) (byte_refused t b rest 21 h (strange_step t (length (written t)) b l g))
  cause_refused s n p (stray i t h g rest j k) = rw (i, j, k) (byte_refused t close rest 22 h (shut_closing t (length (written t)) g))
  cause_refused s n p (unended i os h j k) = rw (i, k, j) (unended_read os h)
  cause_refused s n p (again i r h l rest g j k) = rw (i, j, k) (byte_refused (ended r) l rest 23 h (label_behind a r (length (bytes_of r)) l m g))

  -- Theorem. A stream is refused with number n at place p exactly for one of the causes.
  pub read_refused : (s : List ℕ) (n p : ℕ) → (read_record a s ≡ refused n p) ↔ StreamCause a s n p
  unfolding read_record
  read_refused s n p = (λ e. from_cause s a (reading []) 0 n p refl tt e, cause_refused s n p)
