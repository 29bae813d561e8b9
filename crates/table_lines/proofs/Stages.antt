-- Stages of the reader: which bytes they look at, their numbers, and what a step's answer says.
use mathlib.Core.Path.{◌≡◌, refl, sym, ap, ◌∙◌}
use mathlib.Core.List.{List}
use Prim.Native.Nat.{ℕ, ◌≤◌}
use native.Mathlib.Omega.{arith}
use lib.ListN.{take}
use Rattle.text.specs.Frames as text
use Rattle.text.specs.Frames.{symbols, rules, ended}
use Rattle.head_frames.specs.Staged.{Staged, Stepped}
use Rattle.head_frames.specs.declared.Stage.{Stage}
use Rattle.head_frames.specs.declared.Phase.TheVariants as phase
use Rattle.std.specs.Prelude.{Ok, Err}
use Rattle.fields.specs.Read.{number_of}
use Rattle.fields.specs.declared.Fault.{Fault}
use Rattle.head_frames.specs.declared.Note.{Note}

-- A stage looks at the bytes that are used, and at no other.
pub staged_kept : (F F' : List ℕ) (R : List Note) (st : Stage) (s : text.Stage) → Staged F R st s → take st.used F' ≡ take st.used F → Staged F' R st s
staged_kept F F' R st (symbols ks) d e =
    record { phase = d.phase; symbols = d.symbols; few = d.few; small = d.small; used = d.used; frames = e ∙ d.frames }
staged_kept F F' R st (rules M) d e = record { phase = d.phase; numbers = d.numbers; used = d.used; frames = e ∙ d.frames; rules = d.rules }
staged_kept F F' R st (ended M) d e = record { phase = d.phase; head = d.head; used = d.used; frames = e ∙ d.frames; rules = d.rules }

-- While rules come, there are at most 64 states and symbols.
pub staged_few : (F : List ℕ) (R : List Note) (st : Stage) (s : text.Stage) → Staged F R st s → st.phase ≡ phase.Rules → (st.head.states ≤ 64) ×
    (st.head.symbols ≤ 64)
staged_few F R st (symbols ks) d e = absurd (cc d.phase)
staged_few F R st (rules M) d e =
    let n = d.numbers in
    (omega (arith, n.states, ap (λ h. h.states) n.head), omega (arith, n.symbols, ap (λ h. h.symbols) n.head))
staged_few F R st (ended M) d e = absurd (cc d.phase)

-- A step leads to the stage that the reader's numbers stand for.
pub record FrameLeads (F : List ℕ) (R : List Note) (st : Stage) (o : text.Step) : Type 0 where
  pub stage : text.Stage
  pub step : o ≡ text.next stage
  pub staged : Staged F R st stage

-- An answer with a stage says so.
pub ready_step : (F : List ℕ) (R : List Note) (st : Stage) (o : text.Step) → Stepped F R o (Ok st) → FrameLeads F R st o
ready_step F R st (text.next s) d = record { stage = s; step = refl; staged = d }
ready_step F R st (text.wrong k) h = absurd h

-- An answer with a fault says that the frame is wrong.
pub wrong_step : (F : List ℕ) (R : List Note) (e : Fault) (o : text.Step) → Stepped F R o (Err e) → o ≡ text.wrong (number_of e)
wrong_step F R e (text.next s) h = absurd h
wrong_step F R e (text.wrong k) h = ap text.wrong (sym h)
