-- A frame by its kind: what it makes of the stage, and 3 for a kind that is unknown or not due here.
use mathlib.Core.Path.{◌≡◌, refl, sym, subst}
use mathlib.Core.List.{List, [], ◌∷◌}
use Prim.Native.Nat.{ℕ, zero, suc, ◌+◌, ◌<◌, ◌≤◌}
use native.Mathlib.Omega.{arith}
use lib.ListN.{length, get_or}
use lib.Seq.{slice}
use Rattle.machine.specs.Machine.{Table}
use Rattle.text.specs.Frames as text
use Rattle.text.specs.Frames.{symbols, rules, ended, whole, symbol_frame, start_frame, rule_frame, end_frame}
use Rattle.text.proofs.ByKind.{step_empty, step_01, step_02, step_03, step_04, step_first_other, step_symbols_other, step_rules_other, step_ended}
use Rattle.fields.proofs.Slices.{slice_none, slice_byte}
use Rattle.head_frames.specs.Staged.{AtSymbols, AtRules, Staged, Stepped}
use Rattle.head_frames.specs.declared.Stage.{Stage}
use Rattle.std.specs.Prelude.{Result, Err}
use Rattle.fields.specs.declared.Fault.{Fault}
use Rattle.fields.specs.declared.Fault.TheVariants.{EmptyLine, OutOfOrder}
use Rattle.head_frames.specs.declared.Phase.TheVariants as phase
use Rattle.head_frames.specs.declared.Note.{Note}

-- What the frame of n bytes behind those that are used makes of the stage s.
abbrev Makes : List ℕ → List Note → Stage → ℕ → text.Stage → Result Stage Fault → Type 0
Makes F R st n s r = Stepped F R (text.step s (slice st.used (st.used + n) F)) r

-- A frame of no bytes.
pub step_none : (F : List ℕ) (R : List Note) (st : Stage) (n : ℕ) (s : text.Stage) → n ≡ 0 → Makes F R st n s (Err EmptyLine)
step_none F R st n s e = rw (slice_none F st.used (st.used + n) (omega arith), step_empty s) refl

-- ---- kinds that are due

-- A frame of this kind is due at the stage.
abbrev KindDue : ℕ → Stage → Type 0
KindDue zero st = ⊥
KindDue (suc zero) st = st.phase ≡ phase.Symbols
KindDue (suc (suc zero)) st = (st.phase ≡ phase.Symbols) × (0 < st.head.symbols)
KindDue (suc (suc (suc zero))) st = st.phase ≡ phase.Rules
KindDue (suc (suc (suc (suc zero)))) st = st.phase ≡ phase.Rules
KindDue (suc (suc (suc (suc (suc k))))) st = ⊥

-- A kind that is none of the four is not.
unknown : (k : ℕ) (st : Stage) → (k ≡ 1 → ⊥) → (k ≡ 2 → ⊥) → (k ≡ 3 → ⊥) → (k ≡ 4 → ⊥) → KindDue k st → ⊥
unknown zero st h₁ h₂ h₃ h₄ d = d
unknown (suc zero) st h₁ h₂ h₃ h₄ d = h₁ refl
unknown (suc (suc zero)) st h₁ h₂ h₃ h₄ d = h₂ refl
unknown (suc (suc (suc zero))) st h₁ h₂ h₃ h₄ d = h₃ refl
unknown (suc (suc (suc (suc zero)))) st h₁ h₂ h₃ h₄ d = h₄ refl
unknown (suc (suc (suc (suc (suc k))))) st h₁ h₂ h₃ h₄ d = d

-- A kind that is not due is refused.
not_due : (F : List ℕ) (R : List Note) (st : Stage) (s : text.Stage) (kind : ℕ) (bs : List ℕ) → Staged F R st s → (KindDue kind st → ⊥)
    → text.step s (kind ∷ bs) ≡ text.wrong 3
not_due F R st s kind bs d h = go s d
  where
    is : (k : ℕ) → KindDue k st → kind ≡ k → ⊥
    is k w e = h (subst (λ j. KindDue j st) (sym e) w)

    go : (s : text.Stage) → Staged F R st s → text.step s (kind ∷ bs) ≡ text.wrong 3
    go (symbols []) a = step_first_other kind bs (is 1 a.phase)
    go (symbols (k ∷ ks)) a = step_symbols_other kind bs (k ∷ ks) (is 1 a.phase) (is 2 (a.phase, omega (arith, a.symbols)))
    go (rules M) a = step_rules_other kind bs M (is 3 a.phase) (is 4 a.phase)
    go (ended M) a = step_ended kind bs M

-- While symbols come, the stage is that of the symbols so far.
at_symbols : (P : text.Stage → Type 0) (F : List ℕ) (R : List Note) (st : Stage) (s : text.Stage) → Staged F R st s → st.phase ≡ phase.Symbols
    → ((ks : List ℕ) → AtSymbols F st ks → P (symbols ks)) → P s
at_symbols P F R st (symbols ks) d e f = f ks d
at_symbols P F R st (rules M) d e f = absurd (cc d.phase)
at_symbols P F R st (ended M) d e f = absurd (cc d.phase)

-- While rules come, it is that of the table so far.
at_rules : (P : text.Stage → Type 0) (F : List ℕ) (R : List Note) (st : Stage) (s : text.Stage) → Staged F R st s → st.phase ≡ phase.Rules
    → ((M : Table) → AtRules F R st M → P (rules M)) → P s
at_rules P F R st (symbols ks) d e f = absurd (cc d.phase)
at_rules P F R st (rules M) d e f = f M d
at_rules P F R st (ended M) d e f = absurd (cc d.phase)

-- ---- by kind

-- A frame of n bytes stands behind those that are used.
pub record FrameThere (F : List ℕ) (st : Stage) (n : ℕ) : Type 0 where
  pub some : 0 < n
  pub inside : st.used + n ≤ length F

-- It does where the bytes that an opened table has are not used up.
pub frame_there : {F : List ℕ} {st : Stage} {n : ℕ} → (n ≡ 0 → ⊥) → st.used + n ≤ 16384 → length F ≡ 16448 → FrameThere F st n
frame_there some room long = record { some = omega arith; inside = omega arith }

module _ {F : List ℕ} {st : Stage} {n : ℕ} (there : FrameThere F st n) where
  -- The frame's kind, and its fields.
  abbrev kind : ℕ
  kind = get_or F st.used 0

  abbrev fields : List ℕ
  fields = slice (st.used + 1) (st.used + n) F

  kind_first : slice st.used (st.used + n) F ≡ kind ∷ fields
  kind_first = slice_byte F st.used (st.used + n) kind (omega (arith, there.some)) there.inside refl

  module _ (R : List Note) (s : text.Stage) (d : Staged F R st s) where
    -- A kind that is not due.
    pub step_undue : (R' : List Note) (k : ℕ) → kind ≡ k → (KindDue k st → ⊥) → Makes F R' st n s (Err OutOfOrder)
    step_undue R' k e h = rw (kind_first, not_due F R st s kind fields d (λ w. h (subst (λ j. KindDue j st) e w))) refl

    -- A kind that is unknown.
    pub step_unknown : (R' : List Note) → (kind ≡ 1 → ⊥) → (kind ≡ 2 → ⊥) → (kind ≡ 3 → ⊥) → (kind ≡ 4 → ⊥) → Makes F R' st n s (Err OutOfOrder)
    step_unknown R' h₁ h₂ h₃ h₄ = step_undue R' kind refl (unknown kind st h₁ h₂ h₃ h₄)

    -- Frame 01 while symbols come.
    pub step_symbol : (r : Result Stage Fault) → kind ≡ 1 → st.phase ≡ phase.Symbols
        → ((S : List Note) (ks : List ℕ) → AtSymbols F st ks → kind ≡ 1 → Stepped F S (whole (symbol_frame ks fields)) r) → Makes F R st n s r
    step_symbol r e p o = at_symbols (λ s. Makes F R st n s r) F R st s d p λ ks a. rw (kind_first, step_01 kind fields ks e) (o R ks a e)

    -- Frame 02 behind a symbol.
    pub step_start : (r : Result Stage Fault) → kind ≡ 2 → st.phase ≡ phase.Symbols → 0 < st.head.symbols
        → ((S : List Note) (ks : List ℕ) → AtSymbols F st ks → kind ≡ 2 → Stepped F S (whole (start_frame ks fields)) r) → Makes F R st n s r
    step_start r e p l o =
        at_symbols (λ s. Makes F R st n s r) F R st s d p λ ks a.
        rw (kind_first, step_02 kind fields ks (omega (arith, a.symbols)) e) (o R ks a e)

    -- Frame 03 behind the initial rule.
    pub step_rule : (R' : List Note) (r : Result Stage Fault) → kind ≡ 3 → st.phase ≡ phase.Rules
        → ((M : Table) → AtRules F R st M → kind ≡ 3 → Stepped F R' (whole (rule_frame M fields)) r) → Makes F R' st n s r
    step_rule R' r e p o = at_rules (λ s. Makes F R' st n s r) F R st s d p λ M a. rw (kind_first, step_03 kind fields M e) (o M a e)

    -- Frame 04 behind the initial rule.
    pub step_end : (r : Result Stage Fault) → kind ≡ 4 → st.phase ≡ phase.Rules
        → ((S : List Note) (M : Table) → AtRules F S st M → kind ≡ 4 → Stepped F S (whole (end_frame M fields)) r) → Makes F R st n s r
    step_end r e p o = at_rules (λ s. Makes F R st n s r) F R st s d p λ M a. rw (kind_first, step_04 kind fields M e) (o R M a e)
