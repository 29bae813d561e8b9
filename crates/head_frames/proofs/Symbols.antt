-- Frame 01 while symbols are read: what the frame's answer is, by what its field gave.
use mathlib.Core.Path.{◌≡◌, sym, ap, ◌∙◌}
use mathlib.Core.Bool.{true}
use mathlib.Core.List.{List, [], ◌∷◌, ◌++◌}
use Prim.Native.Nat.{ℕ, ◌+◌, ◌<◌, ◌≤◌}
use native.Mathlib.Omega.{arith}
use borrow.Author.Tests.{lt-ltb, le-ltb}
use lib.Dec.{ltb}
use lib.ListN.{length, get_or, take, length-append}
use lib.Seq.{slice}
use Rattle.text.specs.Limits.{symbols_most, arity_most}
use Rattle.text.specs.Fields.{got, fault, within}
use Rattle.text.specs.Frames as text
use Rattle.text.specs.Frames.{symbols, symbol_frame}
use Rattle.text.proofs.Fields.{then_got, check_got, within_inv, most_append}
use Rattle.text.proofs.Faults.{then_fault, check_fault}
use Rattle.layout.specs.Layout.{symbol_frames}
use Rattle.layout.proofs.Growing.{symbols_more}
use Rattle.fields.proofs.Slices.{slice_none}
use Rattle.fields.proofs.Numbers.{IsNumber}
use Rattle.head_frames.specs.Staged.{AtSymbols, Stepped}
use Rattle.head_frames.specs.declared.Stage.{Stage}
use Rattle.std.specs.Prelude.{Result, Ok, Err, IsErrAnd}
use Rattle.fields.specs.Read.{Finished}
use Rattle.fields.specs.declared.Fault.{Fault}
use Rattle.head_frames.specs.declared.Phase.TheVariants as phase
use Rattle.head_frames.proofs.StepFrames.{stepped_left, stepped_ready, frame_more, frame_long}
use Rattle.head_frames.specs.declared.Note.{Note}

module _ {F : List ℕ} {st : Stage} {ks : List ℕ} (d : AtSymbols F st ks) (at end : ℕ) where
  -- A 65th symbol.
  pub refuse_many : symbols_most ≤ st.head.symbols → symbol_frame ks (slice at end F) ≡ fault 4
  unfolding symbol_frame
  refuse_many h = check_fault (ltb (length ks) symbols_most) 4 _ (slice at end F) (le-ltb (length ks) symbols_most (omega (arith, d.symbols)))

  module _ (room : st.head.symbols < symbols_most) where
    -- There is room for a symbol.
    has_room : ltb (length ks) symbols_most ≡ true
    has_room = lt-ltb (length ks) symbols_most (omega (arith, d.symbols))

    -- The arity is refused.
    pub refuse_arity : (k : ℕ) → within 0 arity_most (slice at end F) ≡ fault k → symbol_frame ks (slice at end F) ≡ fault k
    unfolding symbol_frame
    refuse_arity k e = check_got (ltb (length ks) symbols_most) 4 _ (slice at end F) has_room ∙ then_fault _ _ k e

    module _ {a then : ℕ} (i : IsNumber F at end a then (within 0 arity_most (slice at end F))) where
      -- The arity is read.
      taken : symbol_frame ks (slice at end F) ≡ got (symbols (ks ++ a ∷ [])) (slice then end F)
      unfolding symbol_frame
      taken = check_got (ltb (length ks) symbols_most) 4 _ (slice at end F) has_room ∙ then_got _ _ a (slice then end F) i.read

      -- Bytes are left over.
      pub symbol_over : (R : List Note) (e : Fault) (r : Result Stage Fault) → IsErrAnd r (λ x. x ≡ e) → Finished then end (Err e) → end ≤ length F
          → Stepped F R (text.whole (symbol_frame ks (slice at end F))) r
      symbol_over R e r w h l = stepped_left F R _ e r w _ then end taken h l

      module _ (whole : end ≤ then) (next_to : at ≡ st.used + 1) (inside : end ≤ length F) (kind : get_or F st.used 0 ≡ 1) where
        -- The arity is at most 4, and its byte is the frame's only field.
        arity_read : (a ≤ arity_most) × (slice at end F ≡ a ∷ slice then end F)
        arity_read = let x = within_inv 0 arity_most (slice at end F) a (slice then end F) i.read in (x.1, x.2)

        field_alone : slice at end F ≡ a ∷ []
        field_alone = arity_read.1 ∙ ap (λ r. a ∷ r) (slice_none F then end (omega (arith, i.inside)))

        -- The frame has a byte.
        some : st.used < end
        some = omega (arith, i.inside, i.next)

        -- The symbol's frame stands behind the frames so far.
        frames_with : take end F ≡ symbol_frames (ks ++ a ∷ [])
        frames_with = frame_more F st.used at end _ _ 1 some inside next_to d.frames kind field_alone ∙ sym (symbols_more ks a)

        -- The stage behind the symbol.
        pub symbol_next : (R : List Note) (st' : Stage) → st'.phase ≡ phase.Symbols → st'.head.symbols ≡ st.head.symbols + 1 → st'.used ≡ end
            → Stepped F R (text.whole (symbol_frame ks (slice at end F))) (Ok st')
        symbol_next R st' is_phase count used = stepped_ready F R _ _ then end taken st' i.inside whole (record {
          phase = is_phase;
          symbols = omega (arith, d.symbols, length-append ks (a ∷ []));
          few = omega (arith, d.symbols, length-append ks (a ∷ []));
          small = most_append arity_most ks (a ∷ []) d.small (arity_read.0, tt);
          used = used ∙ frame_long F end _ inside frames_with;
          frames = ap (λ n. take n F) used ∙ frames_with;
        })
