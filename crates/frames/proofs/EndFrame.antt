-- Frame 04 at the stage of rules.
use mathlib.Core.Path.{◌≡◌, refl}
use mathlib.Core.List.{List, []}
use Prim.Native.Nat.{ℕ, ◌+◌, ◌≤◌}
use native.Mathlib.Omega.{arith}
use lib.ListN.{length, get_or, take}
use lib.Seq.{slice}
use Rattle.machine.specs.Machine.{Table}
use Rattle.text.specs.Frames as text
use Rattle.layout.specs.Layout.{frames_of}
use Rattle.fields.proofs.Slices.{slice_none}
use Rattle.head_frames.specs.Staged.{AtRules, Stepped}
use Rattle.head_frames.specs.declared.Stage.{Stage}
use Rattle.std.specs.Prelude.{Result, Ok, Err, IsErrAnd}
use Rattle.fields.specs.Read.{Finished}
use Rattle.fields.specs.declared.Fault.{Fault}
use Rattle.head_frames.specs.declared.Phase.TheVariants as phase
use Rattle.head_frames.proofs.StepFrames.{stepped_left, stepped_ready, frame_more, frame_long}
use Rattle.head_frames.specs.declared.Note.{Note}

-- The stage behind the end.
abbrev behind_end : Stage → ℕ → Stage
behind_end st end = record { phase = phase.Ended; head = st.head; last = st.last; used = end }

module _ {F : List ℕ} {R : List Note} {st : Stage} {M : Table} (a : AtRules F R st M) (at end : ℕ) where
  -- Bytes are left over.
  pub end_over : (e : Fault) (r : Result Stage Fault) → IsErrAnd r (λ x. x ≡ e) → Finished at end (Err e) → end ≤ length F
      → Stepped F R (text.whole (text.end_frame M (slice at end F))) r
  end_over e r w h l = stepped_left F R _ e r w _ at end refl h l

  module _ (whole : end ≤ at) (next_to : at ≡ st.used + 1) (start : at ≤ end) (inside : end ≤ length F) (kind : get_or F st.used 0 ≡ 4) where
    -- No byte is left over.
    nothing_left : slice at end F ≡ []
    nothing_left = slice_none F at end (omega arith)

    -- The end frame stands behind the frames so far.
    frames_all : take end F ≡ frames_of M
    unfolding frames_of
    frames_all = frame_more F st.used at end _ _ 4 (omega arith) inside next_to a.frames kind nothing_left

    -- The stage behind the end.
    pub end_next : Stepped F R (text.whole (text.end_frame M (slice at end F))) (Ok (behind_end st end))
    end_next = stepped_ready F R _ _ at end refl _ start whole (record {
      phase = refl;
      head = a.numbers.head;
      used = frame_long F end _ inside frames_all;
      frames = frames_all;
      rules = a.rules;
    })
