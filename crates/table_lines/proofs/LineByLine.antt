-- Reading line by line: what is read so far, one line more, a line that is refused, the end.
use mathlib.Core.Path.{◌≡◌, sym, ap, ◌∙◌}
use mathlib.Core.List.{List, [], ◌++◌, append_assoc}
use Prim.Native.Nat.{ℕ, suc, ◌+◌, ◌*◌, ◌<◌, ◌≤◌}
use native.Mathlib.Omega.{arith}
use lib.ListN.{length, take, drop, length-append, length-drop, drop_of_length-le}
use lib.Seq.{slice, length-take-le, take-append_seam, drop-append_seam}
use Rattle.words.specs.Reply.{given, refused}
use Rattle.machine.specs.Machine.{Table}
use Rattle.text.specs.Limits.{text_most}
use Rattle.text.specs.Lines.{lines_of}
use Rattle.text.specs.Frames as text
use Rattle.text.specs.Reading.{finish, read_lines, read_table}
use Rattle.text.specs.Writing.{Limited}
use Rattle.text.proofs.Reading.{read_fit}
use Rattle.text.proofs.Back.{read_limited}
use Rattle.layout.specs.Layout.{frames_size}
use Rattle.lines.specs.Scan.{scan, bad}
use Rattle.lines.specs.declared.Line.{Line}
use Rattle.lines.proofs.Laws.{scan_small, read_whole_next, read_whole_wrong, read_bad, IsWhole}
use Rattle.head_frames.specs.Staged.{Staged}
use Rattle.head_frames.specs.declared.Stage.{Stage}
use Rattle.table_lines.proofs.UsedBytes.{used_more}
use Rattle.table_lines.proofs.Stages.{staged_kept, FrameLeads}
use Rattle.head_frames.specs.declared.Note.{Note}

-- The lines before `at` are read, and those from there on decide.
pub record ReadUpTo (T F : List ℕ) (R : List Note) (st : Stage) (at : ℕ) : Type 0 where
  pub stage : text.Stage
  pub staged : Staged F R st stage
  pub rest : read_table T ≡ read_lines stage at (lines_of (drop at T))
  pub inside : at ≤ length T
  pub room : 2 * st.used ≤ at
  pub bytes : length F ≡ frames_size

-- Nothing is read yet.
pub up_to_begin : (T F : List ℕ) (R : List Note) (st : Stage) → 1 ≤ length T → length T ≤ text_most → length F ≡ frames_size → Staged F R st
    (text.symbols [])
    → st.used ≡ 0 → ReadUpTo T F R st 0
up_to_begin T F R st h k b d e =
    record { stage = text.symbols []; staged = d; rest = read_fit T h k; inside = omega arith; room = omega arith; bytes = b }

-- ---- bytes put into bytes

module _ (p q r : List ℕ) (a : ℕ) (e : length p ≡ a) where
  -- What stands in front is in front.
  put_front : take a (p ++ q ++ r) ≡ p
  put_front = rw (← e, append_assoc) (take-append_seam p (q ++ r))

  -- What was put stands behind it.
  put_part : (n : ℕ) → length q ≡ n → slice a (a + n) (p ++ q ++ r) ≡ q
  put_part n f =
      let l : a + n ≡ length (p ++ q) = omega (arith, length-append p q) in
      rw (l, take-append_seam (p ++ q) r, ← e) (drop-append_seam p q)

-- ---- one line

module _ {T F : List ℕ} {R : List Note} {st : Stage} {at : ℕ} (g : ReadUpTo T F R st at) where
  -- A bad line is 2 where it starts.
  pub line_bad : at < length T → scan (drop at T) ≡ bad → read_table T ≡ refused 2 at
  line_bad h e = g.rest ∙ read_bad g.stage at (drop at T) (λ n. omega (arith, length-drop at T, ap length n)) e

  -- At the text's end the stage decides.
  pub text_end : length T ≤ at → read_table T ≡ finish g.stage at
  unfolding lines_of read_lines
  text_end h = g.rest ∙ ap (λ t. read_lines g.stage at (lines_of t)) (drop_of_length-le T h)

  -- A table that is given there is within the limits.
  pub end_limited : length T ≤ at → (M : Table) → finish g.stage at ≡ given M → Limited M
  end_limited h M e = read_limited T M (text_end h ∙ e)

  module _ {F' : List ℕ} {l : Line} (w : IsWhole T (scan (drop at T)) at st.used l F F') (fit : length T ≤ text_most) where
    -- The frame fits behind the bytes that are used.
    pub line_fits : st.used + l.bytes ≤ 16383
    line_fits = omega (arith, g.room, w.put.next, w.put.inside)

    -- The bytes that are used are there.
    line_used : length (take st.used F) ≡ st.used
    line_used = length-take-le st.used F (omega (arith, line_fits, g.bytes))

    -- There are as many bytes as before.
    pub line_bytes : length F' ≡ frames_size
    line_bytes =
        ap length w.put.put ∙ simp (length-append, length-drop) (omega (arith, line_fits, g.bytes, w.put.bytes, line_used))

    -- The bytes that are used are as they were.
    line_front : take st.used F' ≡ take st.used F
    line_front = ap (take st.used) w.put.put ∙ put_front (take st.used F) w.bytes (drop (st.used + l.bytes) F) st.used line_used

    -- Behind them stands the frame.
    line_frame : slice st.used (st.used + l.bytes) F' ≡ w.bytes
    line_frame =
        ap (slice st.used (st.used + l.bytes)) w.put.put
        ∙ put_part (take st.used F) w.bytes (drop (st.used + l.bytes) F) st.used line_used l.bytes (sym w.put.bytes)

    -- The stage is as it was.
    pub line_staged : Staged F' R st g.stage
    line_staged = staged_kept F F' R st g.stage g.staged line_front

    -- A wrong frame is refused where its line starts.
    pub line_wrong : (k : ℕ) → text.step g.stage (slice st.used (st.used + l.bytes) F') ≡ text.wrong k → read_table T ≡ refused k at
    line_wrong k e =
        g.rest
        ∙ read_whole_wrong g.stage at (drop at T) w.bytes w.left k w.scanned (ap (text.step g.stage) (sym line_frame) ∙ e)

    -- A frame that is read leads on to the next line.
    pub line_next : (R' : List Note) (st' : Stage) → FrameLeads F' R' st' (text.step g.stage (slice st.used (st.used + l.bytes) F'))
        → ReadUpTo T F' R' st' l.next
    line_next R' st' m =
        let s : text.step g.stage w.bytes ≡ text.next m.stage = ap (text.step g.stage) (sym line_frame) ∙ m.step in
        let small = scan_small (drop at T) w.bytes w.left w.scanned in
        let u : st'.used ≡ st.used + length w.bytes = used_more F R F' R' st st' _ _ w.bytes small s g.staged m.staged in
        let p : at + suc (2 * length w.bytes) ≡ l.next = omega (arith, w.put.next, w.put.bytes) in
        record {
          stage = m.stage;
          staged = m.staged;
          rest = g.rest
              ∙ read_whole_next g.stage at (drop at T) w.bytes w.left m.stage w.scanned s
              ∙ ap (λ a. read_lines m.stage a (lines_of w.left)) p
              ∙ ap (λ t. read_lines m.stage l.next (lines_of t)) (sym w.put.rest);
          inside = w.put.inside;
          room = omega (arith, g.room, w.put.next, w.put.bytes);
          bytes = line_bytes;
        }
