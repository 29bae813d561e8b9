-- The text's end: a table where the end frame has been read, and 3 where it has not; answers.
use mathlib.Core.Path.{◌≡◌, refl, sym, ap, ◌∙◌}
use mathlib.Core.List.{List}
use Prim.Native.Nat.{ℕ}
use lib.ListN.{length, take}
use Rattle.words.specs.Reply.{Reply, given, refusal, refused}
use Rattle.std.specs.Prelude.{Ok, Err, IsErrAnd}
use Rattle.words.specs.declared.No.{No}
use Rattle.machine.specs.Machine.{Table}
use Rattle.text.specs.Frames as text
use Rattle.text.specs.Frames.{symbols, rules, ended}
use Rattle.text.specs.Reading.{finish}
use Rattle.text.specs.Writing.{Limited}
use Rattle.layout.specs.Layout.{frames_size}
use Rattle.head_frames.specs.Staged.{Staged}
use Rattle.head_frames.specs.declared.Stage.{Stage}
use Rattle.head_frames.specs.declared.Phase.TheVariants as phase
use Rattle.table_lines.specs.Reads.{Reads}
use Rattle.head_frames.specs.declared.Head.{Head}
use Rattle.head_frames.specs.declared.Note.{Note}

-- The end frame has been read: the bytes and the numbers are the table's.
pub ended_reads : (F : List ℕ) (R : List Note) (st : Stage) (s : text.Stage) (p : ℕ) → Staged F R st s → length F ≡ frames_size
    → ((M : Table) → finish s p ≡ given M → Limited M) → st.phase ≡ phase.Ended → Reads F R (finish s p) (given st.head)
ended_reads F R st (symbols ks) p d b l e = absurd (cc d.phase)
ended_reads F R st (rules M) p d b l e = absurd (cc d.phase)
ended_reads F R st (ended M) p d b l e =
    (d.head, record { limited = l M refl; bytes = b; frames = ap (λ n. take n F) (sym d.used) ∙ d.frames; rules = d.rules })

-- It has not: 3.
pub lacking_refused : (F : List ℕ) (R : List Note) (st : Stage) (s : text.Stage) (p : ℕ) (r : Reply Head) → Staged F R st s → (st.phase ≡ phase.Ended → ⊥)
    → r ≡ refused 3 p → Reads F R (finish s p) r
lacking_refused F R st (symbols ks) p r d n e = rw e refl
lacking_refused F R st (rules M) p r d n e = rw e refl
lacking_refused F R st (ended M) p r d n e = absurd (n d.phase)

-- A refusal is answered.
pub refused_reads : (F : List ℕ) (R : List Note) (o : Reply Table) (n p : ℕ) (r : Reply Head) → o ≡ refused n p → r ≡ refused n p
    → Reads F R o r
refused_reads F R o n p r e f = rw (e, f) refl

-- A refusal is passed on.
pub refusal_reads : (F : List ℕ) (R : List Note) (o : Reply Table) (x : No) (r : Reply Head) → o ≡ refusal x → IsErrAnd r (λ y. y ≡ x)
    → Reads F R o r
refusal_reads F R o x (Ok h) e k = absurd k
refusal_reads F R o x (Err y) e k = rw e k

-- What one reply asks of an answer, an equal one does.
pub reads_as : (F : List ℕ) (R : List Note) (o o' : Reply Table) (r : Reply Head) → o ≡ o' → Reads F R o' r → Reads F R o r
reads_as F R o o' r e h = rw e h
