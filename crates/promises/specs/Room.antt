-- The room lent by the caller: 12 if it is shorter than the output; else the output first, and the rest unchanged. Definitions only.
use Rattle.std.specs.Prelude.{List, ◌++◌, ℕ, ltb, length, drop}
use Rattle.words.specs.Reply.{Reply, given, refusal, ◌then◌, refuse_if}

-- The answer to an output that has `room` bytes: 12 with the length needed comes last.
abbrev pub into : ℕ → Reply (List ℕ) → Reply (List ℕ)
into room a = a then λ out. refuse_if (ltb room (length out)) 12 (length out) (given out)

-- The room after an answer: no byte changes where it is a no.
abbrev pub filled : List ℕ → Reply (List ℕ) → List ℕ
filled room (given out) = out ++ drop (length out) room
filled room (refusal x) = room
