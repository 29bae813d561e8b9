-- What opening a text answers, and what it leaves as it was. Definitions only.
use Rattle.std.specs.Prelude.{◌≡◌, List, ◌++◌, ℕ, length, drop}
use Rattle.words.specs.Reply.{Reply, given, refusal}
use Rattle.machine.specs.Machine.{Table}
use Rattle.layout.specs.Layout.{frames_of, Opened}
use Rattle.table_numbers.specs.Storing.{Beyond}

-- Opening answers as reading does: the lent bytes F and numbers I are the opened table; or the refusal is the text's.
abbrev pub Opens : List ℕ → List ℕ → Reply Table → Reply (Unit {0}) → Type 0
Opens F I (given M) (given u) = Opened F I M
Opens F I (given M) (refusal r) = ⊥
Opens F I (refusal x) (given u) = ⊥
Opens F I (refusal x) (refusal r) = r ≡ x

-- What opening leaves of the lent bytes F and numbers I: all of them where the text is refused; else what lies behind the table's frames, and each
-- number that the table does not use.
abbrev pub Unchanged : List ℕ → List ℕ → List ℕ → List ℕ → Reply Table → Type 0
Unchanged F I F' I' (given M) = (F' ≡ frames_of M ++ drop (length (frames_of M)) F) × Beyond I I' M
Unchanged F I F' I' (refusal x) = (F' ≡ F) × (I' ≡ I)
