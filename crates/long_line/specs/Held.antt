-- What is known of a line of hexadecimal of any length, of which some characters have come. Definitions only.
use Rattle.std.specs.Prelude.{◌≡◌, List, ◌++◌, ◌⊎◌, ℕ, ◌<◌, ltb, length}
use Rattle.std.proofs.Math.Option.{none, some}
use Rattle.words.specs.Reply.{Reply, given, refused, ◌then◌}
use Rattle.text.specs.Lines.{bytes_of}
use Rattle.trees.specs.Shape.{tree_most}
use Rattle.records.specs.Records.{close}
use Rattle.records.specs.Counter.{marks_of, check_stream}
use Rattle.records.specs.Symbols.{last_symbol}
use Rattle.layout.specs.Layout.{Meant}
use Rattle.hexline.specs.SoFar.{LineHeld}
use Rattle.stream_check.specs.StreamTold.{marks_told}
use Rattle.long_line.specs.declared.Past.{Past}
use Rattle.long_line.specs.declared.LongLine.{LongLine}

-- No number of the machine reaches this one; a line has fewer characters.
abbrev pub count_most : ℕ
count_most = 18446744073709551616

-- What the bytes of a stream's front leave open, or their refusal, where labels are below a.
abbrev pub MarksTold : ℕ → List ℕ → Reply ℕ → Type 0
MarksTold a gone e = marks_told (ltb 0 (length gone)) e ≡ marks_of close a gone

-- What is told of bytes that are held no more: how many they are, and their marks for each table that F and I mean whose symbol list is
-- one for records.
pub record PastTold (F I gone : List ℕ) (p : Past) : Type 0 where
  pub many : p.bytes ≡ length gone
  pub marks : Meant F I (λ M. (a : ℕ) → last_symbol M.arities ≡ given a → MarksTold a gone p.told)

-- Whatever comes yet, these characters are no bytes.
abbrev pub Hopeless : List ℕ → Type 0
Hopeless cs = (more : List ℕ) → bytes_of (cs ++ more) ≡ none

-- The characters cs have come. The bytes of those in front are held no more, and are none or more than a tree may have; of the rest,
-- which are fewer than k where they can be bytes yet, the line tells.
pub record LongHeld (F I : List ℕ) (k : ℕ) (cs T : List ℕ) (l : LongLine) : Type 0 where
  pub front : List ℕ
  pub rest : List ℕ
  pub gone : List ℕ
  pub parts : cs ≡ front ++ rest
  pub bytes : bytes_of front ≡ some gone
  pub past : PastTold F I gone l.past
  pub long : (length gone ≡ 0) ⊎ (tree_most < length gone)
  pub held : LineHeld rest T l.line
  pub short : Hopeless rest ⊎ (length rest < k)

-- The characters are whole bytes in hexadecimal.
abbrev pub SomeBytes : List ℕ → Type 0
SomeBytes cs = (bs : List ℕ) × (bytes_of cs ≡ some bs)

-- The bytes v are all of bs, where none are held no more; else both are more than a tree may have.
pub record AllOrLong (bs v : List ℕ) (past : ℕ) : Type 0 where
  pub all : past ≡ 0 → v ≡ bs
  pub many : 0 < past → (tree_most < length v) × (tree_most < length bs)

-- What is told of a stream with more bytes than a tree may have: its own refusal, or 6.
abbrev pub long_reply : ℕ → List ℕ → Reply (Unit {0})
long_reply a s = check_stream close a s then λ u. refused 6 0
