-- What a reader has before it, and what its next line gives. Definitions only.
use Rattle.std.specs.Prelude.{◌≡◌, Option, Some, None, Result, Ok, Err, List, ℕ, ◌<◌, length, drop}
use Rattle.words.specs.Reply.{no_at}
use Rattle.words.specs.declared.No.{No}
use Rattle.lines.specs.Scan.{Scanned, LineTaken}
use Rattle.reader.specs.declared.Frame.{Frame}
use Rattle.reader.specs.declared.Reader.{Reader}

-- The text from a reader's place on.
abbrev pub ahead : Reader → List ℕ
ahead r = drop r.at r.text.now

-- What reading a line at `at` answers, behind which the next one starts at `next`: a frame with the line's place and bytes; no 2 with its place, where
-- it is no bytes; or nothing at the text's end, where the bytes F stay.
abbrev pub FrameRead : List ℕ → Scanned → ℕ → ℕ → List ℕ → List ℕ → ℕ → Result (Option Frame) No → Type 0
FrameRead T s at used F F' next (Ok (Some f)) =
    (at < length T) × (f.place ≡ at) × LineTaken T s at used F F' (Some (record { bytes = f.bytes; next = next }))
FrameRead T s at used F F' next (Ok None) = (at ≡ length T) × (F' ≡ F)
FrameRead T s at used F F' next (Err x) = (at < length T) × (x ≡ no_at 2 at) × LineTaken T s at used F F' None
