-- What the lines of a table text come to. Definitions only.
use Rattle.std.specs.Prelude.{◌≡◌, List, ℕ, length, take}
use Rattle.words.specs.Reply.{Reply, given, refusal}
use Rattle.machine.specs.Machine.{Table}
use Rattle.text.specs.Writing.{Limited}
use Rattle.layout.specs.Layout.{frames_size, frames_of}
use Rattle.head_frames.specs.Staged.{head_of, Noted}
use Rattle.head_frames.specs.declared.Head.{Head}
use Rattle.head_frames.specs.declared.Note.{Note}

-- The frames of the limited table M stand first in the bytes F, and the notes of its rules first in R.
pub record Decoded (F : List ℕ) (R : List Note) (M : Table) : Type 0 where
  pub limited : Limited M
  pub bytes : length F ≡ frames_size
  pub frames : take (length (frames_of M)) F ≡ frames_of M
  pub rules : Noted R M

-- Reading a text's lines answers as the definition does: the bytes F and the notes R are those of the table; or the refusal is the text's.
abbrev pub Reads : List ℕ → List Note → Reply Table → Reply Head → Type 0
Reads F R (given M) (given head) = (head ≡ head_of M) × Decoded F R M
Reads F R (given M) (refusal r) = ⊥
Reads F R (refusal x) (given head) = ⊥
Reads F R (refusal x) (refusal r) = r ≡ x
