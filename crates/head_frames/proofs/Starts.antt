-- Frame 02 behind the symbols: what the frame's answer is, by what its fields gave; the stage at the beginning.
use mathlib.Core.Path.{◌≡◌, refl, sym, ap, ◌∙◌}
use mathlib.Core.List.{List, [], ◌∷◌, ◌++◌, append-nil}
use Prim.Native.Nat.{ℕ, ◌+◌, ◌<◌, ◌≤◌}
use native.Mathlib.Omega.{arith}
use lib.ListN.{length, get_or, take}
use lib.Seq.{slice}
use Rattle.words.specs.Word.{Word}
use Rattle.machine.specs.Machine.{Table}
use Rattle.text.specs.Limits.{states_most}
use Rattle.text.specs.Fields.{got, fault, within, below, text}
use Rattle.text.specs.Frames.{whole, rules, start_frame}
use Rattle.text.specs.Writing.{text_of, initial_frame}
use Rattle.text.proofs.Fields.{then_got, within_inv, below_inv, text_inv}
use Rattle.text.proofs.Faults.{then_fault}
use Rattle.layout.specs.Layout.{symbol_frames, head_frames, row_frames}
use Rattle.layout.proofs.Fit.{length_symbols}
use Rattle.fields.proofs.Slices.{slice_none}
use Rattle.fields.proofs.Numbers.{IsNumber}
use Rattle.fields.proofs.Words.{IsWord}
use Rattle.head_frames.specs.Staged.{head_of, kept, AtSymbols, AtRules, Stepped, behind_start}
use Rattle.head_frames.specs.declared.Head.{Head}
use Rattle.head_frames.specs.declared.Stage.{Stage}
use Rattle.std.specs.Prelude.{Result, Ok, Err, IsErrAnd}
use Rattle.fields.specs.Read.{Finished}
use Rattle.fields.specs.declared.Fault.{Fault}
use Rattle.head_frames.specs.declared.Phase.TheVariants as phase
use Rattle.head_frames.proofs.StepFrames.{stepped_left, stepped_ready, frame_more, frame_long}
use Rattle.head_frames.specs.declared.Note.{Note}

-- The table behind frame 02.
abbrev started : List ℕ → ℕ → Word → ℕ → Word → Table
started ks n u q v = record { arities = ks; states = n; before = u; start = q; after = v; rows = [] }

-- ---- the table with no rule

-- The bytes of the fields, in turn.
start_bytes : (n q : ℕ) (u v bs r r₁ r₂ r₃ : List ℕ) → bs ≡ n ∷ r → r ≡ text_of u ++ r₁ → r₁ ≡ q ∷ r₂ → r₂ ≡ text_of v ++ r₃ → r₃ ≡ []
    → bs ≡ n ∷ text_of u ++ q ∷ text_of v
start_bytes n q u v bs r r₁ r₂ r₃ e e₁ e₂ e₃ e₄ = rw (e, e₁, e₂, e₃, e₄, append-nil v)

-- Of no rule nothing is noted.
noted_none : (p : ℕ) → ◌≡◌ {A = List Note} [] (kept 0 p [])
unfolding kept
noted_none p = refl

-- The frames before the first rule, with no rule behind them.
head_alone : (ks : List ℕ) (n : ℕ) (u : Word) (q : ℕ) (v : Word)
    → symbol_frames ks ++ (2 ∷ n ∷ text_of u ++ q ∷ text_of v) ≡ head_frames (started ks n u q v) ++ row_frames []
unfolding head_frames initial_frame row_frames
head_alone ks n u q v = sym (append-nil (symbol_frames ks ++ (2 ∷ n ∷ text_of u ++ q ∷ text_of v)))

-- No rule's frame adds no byte.
rows_none : (xs : List ℕ) → xs ++ row_frames [] ≡ xs
unfolding row_frames
rows_none xs = append-nil xs

-- The numbers of a table with no rule, one by one.
head_same : (a n q b c d : ℕ) (M : Table) → a ≡ (head_of M).symbols → n ≡ (head_of M).states → q ≡ (head_of M).start → b ≡ (head_of M).before
    → c ≡ (head_of M).after → d ≡ (head_of M).rows → M.rows ≡ []
    → ◌≡◌ {A = Head} (record { symbols = a; states = n; start = q; before = b; after = c; rows = d; rules = 0 }) (head_of M)
head_same a n q b c d M e₁ e₂ e₃ e₄ e₅ e₆ e₇ = rw (e₁, e₂, e₃, e₄, e₅, e₆, e₇)

-- ---- field by field

module _ (F ks : List ℕ) (at end : ℕ) where
  -- The number of states is refused.
  pub refuse_states : (k : ℕ) → within 1 states_most (slice at end F) ≡ fault k → start_frame ks (slice at end F) ≡ fault k
  unfolding start_frame
  refuse_states k e = then_fault _ _ k e

module _ {F : List ℕ} (ks : List ℕ) {at end n b : ℕ} (i : IsNumber F at end n b (within 1 states_most (slice at end F))) where
  -- The word u0 is refused.
  pub refuse_before : (k : ℕ) → text (slice b end F) ≡ fault k → start_frame ks (slice at end F) ≡ fault k
  unfolding start_frame
  refuse_before k e = then_got _ _ n _ i.read ∙ then_fault _ _ k e

  module _ {m s : ℕ} (i₁ : IsWord F b end m s (text (slice b end F))) where
    -- The state is refused.
    pub refuse_state : (k : ℕ) → below n (slice s end F) ≡ fault k → start_frame ks (slice at end F) ≡ fault k
    unfolding start_frame
    refuse_state k e = then_got _ _ n _ i.read ∙ then_got _ _ (slice (b + 1) s F) _ i₁.read ∙ then_fault _ _ k e

    module _ {q c : ℕ} (i₂ : IsNumber F s end q c (below n (slice s end F))) where
      -- The word u1 is refused.
      pub refuse_after : (k : ℕ) → text (slice c end F) ≡ fault k → start_frame ks (slice at end F) ≡ fault k
      unfolding start_frame
      refuse_after k e =
          then_got _ _ n _ i.read ∙ then_got _ _ (slice (b + 1) s F) _ i₁.read ∙ then_got _ _ q _ i₂.read ∙ then_fault _ _ k e

      module _ {m' then : ℕ} (i₃ : IsWord F c end m' then (text (slice c end F))) where
        -- The words of the initial rule.
        abbrev u : Word
        u = slice (b + 1) s F

        abbrev v : Word
        v = slice (c + 1) then F

        -- All fields are read.
        taken : start_frame ks (slice at end F) ≡ got (rules (started ks n u q v)) (slice then end F)
        unfolding start_frame
        taken = then_got _ _ n _ i.read ∙ then_got _ _ u _ i₁.read ∙ then_got _ _ q _ i₂.read ∙ then_got _ _ v _ i₃.read

        -- Bytes are left over.
        pub start_over : (R : List Note) (e : Fault) (r : Result Stage Fault) → IsErrAnd r (λ x. x ≡ e) → Finished then end (Err e) → end ≤ length F
            → Stepped F R (whole (start_frame ks (slice at end F))) r
        start_over R e r w h l = stepped_left F R _ e r w _ then end taken h l

        module _ {st : Stage} (z : AtSymbols F st ks) (all : end ≤ then) (next_to : at ≡ st.used + 1) (inside : end ≤ length F)
            (kind : get_or F st.used 0 ≡ 2) where
          -- The fields' bytes.
          start_fields : slice at end F ≡ n ∷ text_of u ++ q ∷ text_of v
          start_fields =
              start_bytes n q u v _ _ _ _ _
              (within_inv 1 states_most _ n _ i.read).2
              (text_inv _ u _ i₁.read).1
              (below_inv n _ q _ i₂.read).1
              (text_inv _ v _ i₃.read).1
              (slice_none F then end (omega (arith, i₃.inside)))

          -- The frame has a byte.
          some : st.used < end
          some = omega (arith, i.next, i.inside)

          -- The bytes are the frames of the table.
          frames_with : take end F ≡ head_frames (started ks n u q v) ++ row_frames []
          frames_with = frame_more F st.used at end _ _ 2 some inside next_to z.frames kind start_fields ∙ head_alone ks n u q v

          -- They are as many as are used.
          frames_end : end ≡ length (head_frames (started ks n u q v) ++ row_frames [])
          frames_end = frame_long F end _ inside frames_with

          -- The table with no rule yet.
          start_staged : (R : List Note) → AtRules F R (behind_start st.head.symbols n q b c end) (started ks n u q v)
          start_staged R =
              let long = length_symbols ks in
              let u0 : b ≡ (head_of (started ks n u q v)).before = omega (arith, i.next, z.used) in
              let u1 : c ≡ (head_of (started ks n u q v)).after = omega (arith, i.next, i₁.next, i₁.long, i₂.next, z.used) in
              let head_end = frames_end ∙ ap length (rows_none (head_frames (started ks n u q v))) in
              record {
                phase = refl;
                numbers = record {
                  head = head_same _ _ _ _ _ _ (started ks n u q v) z.symbols refl refl u0 u1 head_end refl;
                  symbols = z.few;
                  small = z.small;
                  states = (within_inv 1 states_most _ n _ i.read).1;
                  rules = omega arith;
                  behind = tt;
                  last = omega arith;
                };
                used = frames_end;
                frames = frames_with;
                rules = noted_none (length (head_frames (started ks n u q v)));
              }

          -- The stage behind the initial rule.
          pub start_next : (R : List Note) → Stepped F R (whole (start_frame ks (slice at end F))) (Ok (behind_start st.head.symbols n q b c end))
          start_next R = stepped_ready F R _ _ then end taken _ i₃.inside all (start_staged R)

-- ---- the beginning

-- No symbol yet.
pub begin_staged : (F : List ℕ) (st : Stage) → st.phase ≡ phase.Symbols → st.head.symbols ≡ 0 → st.used ≡ 0 → AtSymbols F st []
unfolding symbol_frames
begin_staged F st e₁ e₂ e₃ =
    record { phase = e₁; symbols = e₂; few = omega arith; small = tt; used = e₃; frames = ap (λ n. take n F) e₃ }
