-- A count of open elements and a flag suffice to tell whether a stream is accepted, and by which number and where it is refused.
use mathlib.Core.Path.{◌≡◌, refl, sym, ap, ◌∙◌}
use mathlib.Core.Bool.{Bool, true, false, not}
use mathlib.Core.List.{List, [], ◌∷◌, ◌++◌, map}
use mathlib.Core.Logic.{◌↔◌}
use Prim.Native.Nat.{ℕ, suc, ◌+◌, ◌≤◌}
use native.Mathlib.Omega.{arith}
use lib.Dec.{eqb, ltb}
use lib.ListN.{length}
use Rattle.words.specs.Reply.{Reply, given, refusal, refused, ◌then◌, refuse_if, mapped}
use Rattle.words.proofs.Replies.{given_refused, refusal_injective}
use Rattle.trees.specs.Preorder.{preorder}
use Rattle.records.specs.Records.{Element, element, close, image, spell}
use Rattle.records.specs.Stream.{Open, StreamStage, reading, ended, placed, closing, opening, step, ending, read_from, read_record}
use Rattle.records.specs.Counter.{StreamMarks, marks, closing#, opening#, step#, ending#, marks_from, marks_of, check_stream}
use Rattle.records.proofs.Image.{image_preorder}
use Rattle.records.proofs.Sound.{read_sound}

-- What the counter keeps of a stage.
abbrev pub track : StreamStage → StreamMarks
track (reading []) = marks 0 false
track (reading (o ∷ os)) = marks (suc (length os)) true
track (ended r) = marks 0 true

-- What is told of an answer when its value is left out.
abbrev pub plain : Reply Element → Reply (Unit {0})
plain o = mapped (λ r. tt) o

placed_track : (os : List Open) (e : Element) → marks (length os) true ≡ track (placed os e)
placed_track [] e = refl
placed_track (o ∷ os) e = refl

closing_track : (s : StreamStage) (p : ℕ) → closing# (track s).open_now p ≡ mapped track (closing s p)
closing_track (reading []) p = refl
closing_track (reading (o ∷ os)) p = ap (λ (m : StreamMarks). given m) (placed_track os (element o.label o.inside))
closing_track (ended r) p = refl

opening_track : (s : StreamStage) (l p : ℕ) → opening# (track s).open_now (track s).begun p ≡ mapped track (opening l s p)
opening_track (reading []) l p = refl
opening_track (reading (o ∷ os)) l p = refl
opening_track (ended r) l p = refl

step_track : (a : ℕ) (s : StreamStage) (p b : ℕ) → step# close a (track s) p b ≡ mapped track (step a s p b)
step_track a s p b = go (eqb b close) (not (ltb b a))
  where
    go : (t u : Bool)
        → elim t [ true ↦ closing# (track s).open_now p | false ↦ refuse_if u 21 p (opening# (track s).open_now (track s).begun p) ]
        ≡ mapped track (elim t [ true ↦ closing s p | false ↦ refuse_if u 21 p (opening b s p) ])
    go true u = closing_track s p
    go false true = refl
    go false false = opening_track s b p

ending_track : (s : StreamStage) (p : ℕ) → ending# (track s).open_now (track s).begun p ≡ plain (ending s p)
ending_track (reading []) p = refl
ending_track (reading (o ∷ os)) p = refl
ending_track (ended r) p = refl

-- What the marks tell from a stage on, and at the end.
abbrev told_from : ℕ → StreamMarks → ℕ → List ℕ → ℕ → Reply (Unit {0})
told_from a m p bs q = marks_from close a m p bs then λ m'. ending# m'.open_now m'.begun q

then_track : (o : Reply StreamStage) (f : StreamMarks → Reply StreamMarks) (e : StreamMarks → Reply (Unit {0})) (g : StreamStage → Reply Element)
    → ((s : StreamStage) → f (track s) then e ≡ plain (g s)) → mapped track o then f then e ≡ plain (o then g)
then_track (given s) f e g h = h s
then_track (refusal x) f e g h = refl

-- The counter from what it keeps of a stage tells what reading on tells.
pub from_track : (bs : List ℕ) (a : ℕ) (s : StreamStage) (p q : ℕ) → p + length bs ≡ q → told_from a (track s) p bs q ≡ plain (read_from a s p bs)
unfolding marks_from read_from
from_track [] a s p q e =
    let i : q ≡ p = omega (arith, e) in
    ap (λ (z : ℕ). ending# (track s).open_now (track s).begun z) i ∙ ending_track s p
from_track (b ∷ bs) a s p q e =
    ap (λ (o : Reply StreamMarks). o then (λ m. marks_from close a m (suc p) bs) then λ m'. ending# m'.open_now m'.begun q) (step_track a s p b)
    ∙ then_track (step a s p b) (λ m. marks_from close a m (suc p) bs) (λ m'. ending# m'.open_now m'.begun q)
    (λ z. read_from a z (suc p) bs) (λ z. from_track bs a z (suc p) q (omega (arith, e)))

-- Theorem. The counter refuses with the number and place of the reading, and accepts what is read.
pub check_read : (a : ℕ) (s : List ℕ) → check_stream close a s ≡ plain (read_record a s)
unfolding check_stream marks_of read_record
check_read a s = from_track s a (reading []) 0 (length s) (omega arith)

plain_given : (o : Reply Element) → plain o ≡ given tt → (r : Element) × (o ≡ given r)
plain_given (given r) e = (r, refl)
plain_given (refusal x) e = absurd (given_refused tt x.number x.place (sym e))

plain_refused : (o : Reply Element) (n p : ℕ) → plain o ≡ refused n p → o ≡ refused n p
plain_refused (given r) n p e = absurd (given_refused tt n p e)
plain_refused (refusal x) n p e = ap (λ z. refusal z) (refusal_injective {A = Unit {0}} x _ e)

-- Accepted by the counter exactly when a record is read.
pub check_given : (a : ℕ) (s : List ℕ) → (check_stream close a s ≡ given tt) ↔ ((r : Element) × (read_record a s ≡ given r))
check_given a s = (λ e. plain_given (read_record a s) (sym (check_read a s) ∙ e), λ h. check_read a s ∙ ap plain h.1)

-- Refused by the counter exactly when refused, with the same number and place.
pub check_refused : (a : ℕ) (s : List ℕ) (n p : ℕ) → (check_stream close a s ≡ refused n p) ↔ (read_record a s ≡ refused n p)
check_refused a s n p = (λ e. plain_refused (read_record a s) n p (sym (check_read a s) ∙ e), λ h. check_read a s ∙ ap plain h)

-- Theorem. The tree bytes of an accepted stream are its bytes, translated one by one, and one last symbol more.
pub stream_tree : (a : ℕ) (s : List ℕ) (r : Element) → a ≤ 255 → read_record a s ≡ given r → preorder (image a r) ≡ map (spell a) s ++ a ∷ []
stream_tree a s r m e =
    let i = read_sound a s r e in
    image_preorder a r m i.1 ∙ ap (λ (z : List ℕ). map (spell a) z ++ a ∷ []) (sym i.0)
