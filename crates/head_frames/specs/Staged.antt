-- How far the reader is, in numbers, and the stage of the definition that it stands for. Definitions only.
use Rattle.std.specs.Prelude.{◌≡◌, Result, Ok, Err, List, [], ◌∷◌, ◌++◌, ℕ, suc, ◌+◌, ◌*◌, ◌<◌, ◌≤◌, length, take}
use Rattle.machine.specs.Machine.{Row, Table, Every}
use Rattle.text.specs.Frames as frames
use Rattle.text.specs.Writing.{row_frame, AtMost}
use Rattle.layout.specs.Layout.{before_at, after_at, symbol_frames, row_frames, head_frames, frames_of, entry_of, row_number}
use Rattle.head_frames.specs.declared.Head.{Head}
use Rattle.head_frames.specs.declared.Stage.{Stage}
use Rattle.head_frames.specs.declared.Phase.TheVariants as phase
use Rattle.fields.specs.declared.Fault.{Fault}
use Rattle.fields.specs.Read.{number_of}
use Rattle.head_frames.specs.declared.Note.{Note}

-- What is known of a table's head while its text is read.
abbrev pub head_of : Table → Head
head_of M =
    record {
      symbols = length M.arities;
      states = M.states;
      start = M.start;
      before = before_at M;
      after = after_at M;
      rows = length (head_frames M);
      rules = length M.rows;
    }

-- A row's place in the order of rows: by state and then symbol.
abbrev pub key : Row → ℕ
key r = r.state * 64 + r.symbol

-- The least place in that order behind the rows so far.
abbrev pub last_key : List Row → ℕ
last_key [] = 0
last_key (r ∷ []) = key r + 1
last_key (r ∷ s ∷ rs) = last_key (s ∷ rs)

-- What is noted of no rule.
abbrev pub blank : Note
blank = record { row = 0; entry = 0 }

-- What is noted of a row with number i whose rule's bytes stand at p: its number as a row, and what is kept for its state and symbol.
abbrev pub note_of : ℕ → ℕ → Row → Note
note_of i p r = record { row = row_number p r; entry = entry_of i r.rule }

-- What is noted of the rows while they are read, where the first has number i and their frames stand from p on. A rule's bytes stand behind kind,
-- state and symbol.
unfoldable pub kept : ℕ → ℕ → List Row → List Note
kept i p [] = []
kept i p (r ∷ rs) = note_of i (p + 3) r ∷ kept (suc i) (p + length (row_frame r)) rs

-- The list R begins with what is noted of each row of M.
abbrev pub Noted : List Note → Table → Type 0
Noted R M = take (length M.rows) R ≡ kept 0 (length (head_frames M)) M.rows

-- The symbols so far have been read.
pub record AtSymbols (F : List ℕ) (st : Stage) (arities : List ℕ) : Type 0 where
  pub phase : st.phase ≡ phase.Symbols
  pub symbols : st.head.symbols ≡ length arities
  pub few : length arities ≤ 64
  pub small : AtMost 4 arities
  pub used : st.used ≡ length (symbol_frames arities)
  pub frames : take st.used F ≡ symbol_frames arities

-- What is known of the numbers of a table whose rules are being read.
pub record Numbers (st : Stage) (M : Table) : Type 0 where
  pub head : st.head ≡ head_of M
  pub symbols : length M.arities ≤ 64
  pub small : AtMost 4 M.arities
  pub states : M.states ≤ 64
  pub rules : length M.rows ≤ 512
  pub behind : Every (λ r. (r.symbol < 64) × (key r < st.last)) M.rows
  pub last : st.last ≡ last_key M.rows

-- The initial rule and the rules so far have been read.
pub record AtRules (F : List ℕ) (R : List Note) (st : Stage) (M : Table) : Type 0 where
  pub phase : st.phase ≡ phase.Rules
  pub numbers : Numbers st M
  pub used : st.used ≡ length (head_frames M ++ row_frames M.rows)
  pub frames : take st.used F ≡ head_frames M ++ row_frames M.rows
  pub rules : Noted R M

-- The end frame has been read.
pub record AtEnd (F : List ℕ) (R : List Note) (st : Stage) (M : Table) : Type 0 where
  pub phase : st.phase ≡ phase.Ended
  pub head : st.head ≡ head_of M
  pub used : st.used ≡ length (frames_of M)
  pub frames : take st.used F ≡ frames_of M
  pub rules : Noted R M

-- The reader's numbers st, with the bytes F and the notes R of the rules, stand for a stage of the definition.
abbrev pub Staged : List ℕ → List Note → Stage → frames.Stage → Type 0
Staged F R st (frames.symbols arities) = AtSymbols F st arities
Staged F R st (frames.rules M) = AtRules F R st M
Staged F R st (frames.ended M) = AtEnd F R st M

-- What a frame's reading answers: the next stage, or the fault with the number of no.
abbrev pub Stepped : List ℕ → List Note → frames.Step → Result Stage Fault → Type 0
Stepped F R (frames.next s) (Ok st) = Staged F R st s
Stepped F R (frames.next s) (Err e) = ⊥
Stepped F R (frames.wrong k) (Ok st) = ⊥
Stepped F R (frames.wrong k) (Err e) = number_of e ≡ k

-- The stage behind frame 02, which ends at `end`: no rule yet.
abbrev pub behind_start : ℕ → ℕ → ℕ → ℕ → ℕ → ℕ → Stage
behind_start symbols states start before after end =
    record {
      phase = phase.Rules;
      head = record { symbols = symbols; states = states; start = start; before = before; after = after; rows = end; rules = 0 };
      last = 0;
      used = end;
    }
