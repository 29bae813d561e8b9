-- What is told of the bytes of a stream: how many elements they leave open, or the refusal. Definitions only.
use Rattle.std.specs.Prelude.{Bool, ℕ}
use Rattle.words.specs.Reply.{Reply, mapped}
use Rattle.records.specs.Counter.{StreamMarks, marks}

-- The marks behind some bytes, where b says whether anything was read; or the refusal.
abbrev pub marks_told : Bool → Reply ℕ → Reply StreamMarks
marks_told b o = mapped (λ n. marks n b) o
