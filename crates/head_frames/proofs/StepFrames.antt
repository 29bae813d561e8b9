-- What a frame's reading answers, from what its fields give; and the bytes with one frame more.
use mathlib.Core.Path.{◌≡◌, refl, sym, ap, ap₂, ◌∙◌}
use mathlib.Core.List.{List, ◌∷◌, ◌++◌}
use Prim.Native.Nat.{ℕ, ◌+◌, ◌<◌, ◌≤◌}
use native.Mathlib.Omega.{arith}
use lib.ListN.{length, get_or, take, take-append-drop}
use lib.Seq.{slice, take-take, slice-cons, length-take-le}
use Rattle.words.specs.Word.{Word}
use Rattle.text.specs.Fields.{Parsed, got, fault}
use Rattle.text.specs.Frames as text
use Rattle.std.specs.Prelude.{Result, Ok, Err, IsErrAnd}
use Rattle.fields.specs.Read.{number_of, NumberRead, WordRead, Finished}
use Rattle.fields.specs.declared.Fault.{Fault}
use Rattle.fields.proofs.Slices.{slice_none, slice_byte}
use Rattle.fields.proofs.Numbers.{handed_on, fault_number}
use Rattle.fields.proofs.Words.{fault_word}
use Rattle.head_frames.specs.Staged.{Staged, Stepped}
use Rattle.head_frames.specs.declared.Stage.{Stage}
use Rattle.head_frames.specs.declared.Note.{Note}

-- A field or the frame itself is refused, and the fault is handed on.
module _ (F : List ℕ) (R : List Note) (p : Parsed text.Stage) (e : Fault) where
  pub stepped_wrong : p ≡ fault (number_of e) → Stepped F R (text.whole p) (Err e)
  stepped_wrong f = rw f refl

  module _ (r : Result Stage Fault) (told : IsErrAnd r (λ x. x ≡ e)) where
    -- A fault is handed on.
    pub stepped_fault : p ≡ fault (number_of e) → Stepped F R (text.whole p) r
    stepped_fault f = rw (handed_on r e told, f) refl

    -- A number field is refused.
    pub number_stops : (at end then : ℕ) (o : Parsed ℕ) → NumberRead F at end then o (Err e)
        → (o ≡ fault (number_of e) → p ≡ fault (number_of e)) → Stepped F R (text.whole p) r
    number_stops at end then o w h = stepped_fault (h (fault_number F at end then o e w))

    -- A word field is refused.
    pub word_stops : (at end then : ℕ) (o : Parsed Word) → WordRead F at end then o (Err e)
        → (o ≡ fault (number_of e) → p ≡ fault (number_of e)) → Stepped F R (text.whole p) r
    word_stops at end then o w h = stepped_fault (h (fault_word F at end then o e w))

    -- Bytes are left over.
    pub stepped_left : (s : text.Stage) (then end : ℕ) → p ≡ got s (slice then end F) → Finished then end (Err e) → end ≤ length F
        → Stepped F R (text.whole p) r
    stepped_left s then end f (h, g) k = rw (handed_on r e told, g, f, slice-cons then end F 0 h k) refl

-- The frame is read to its end.
pub stepped_ready : (F : List ℕ) (R : List Note) (p : Parsed text.Stage) (s : text.Stage) (then end : ℕ) → p ≡ got s (slice then end F) → (st : Stage) → then ≤
    end
    → end ≤ then → Staged F R st s → Stepped F R (text.whole p) (Ok st)
stepped_ready F R p s then end e st h k d = rw (e, slice_none F then end (omega (arith))) d

-- The bytes up to a frame's end are those before it, its kind, and its fields.
pub frame_more : (F : List ℕ) (used at end : ℕ) (front fields : List ℕ) (kind : ℕ) → used < end → end ≤ length F → at ≡ used + 1
    → take used F ≡ front → get_or F used 0 ≡ kind → slice at end F ≡ fields → take end F ≡ front ++ kind ∷ fields
frame_more F used at end front fields kind h k next_to e f g =
    sym (take-append-drop used (take end F))
    ∙ ap₂ ◌++◌ (take-take used end F (omega arith) ∙ e)
    (slice_byte F used end kind h k (sym f) ∙ ap (λ x. kind ∷ x) (ap (λ n. slice n end F) (sym next_to) ∙ g))

-- They are as many as the place of its end says.
pub frame_long : (F : List ℕ) (end : ℕ) (all : List ℕ) → end ≤ length F → take end F ≡ all → end ≡ length all
frame_long F end all k e = sym (length-take-le end F k) ∙ ap length e
