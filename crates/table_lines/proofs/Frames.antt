-- What a reader's answer says of the text: a frame, a line that is no bytes, or the text's end.
use mathlib.Core.Path.{◌≡◌, refl}
use mathlib.Core.List.{List}
use Prim.Native.Nat.{ℕ, ◌<◌}
use lib.ListN.{length, drop}
use Rattle.std.specs.Prelude.{Option, Ok, Err, Some, None}
use Rattle.words.specs.Reply.{no_at}
use Rattle.words.specs.declared.No.{No}
use Rattle.lines.specs.Scan.{scan, bad}
use Rattle.lines.proofs.Laws.{IsWhole, whole_taken, bad_taken}
use Rattle.reader.specs.declared.Frame.{Frame}
use Rattle.reader.specs.Ahead.{FrameRead}

-- The line at `at` is whole, and its bytes are put.
pub record FrameTaken (T : List ℕ) (at used : ℕ) (f : Frame) (next : ℕ) (F F' : List ℕ) : Type 0 where
  pub more : at < length T
  pub place : f.place ≡ at
  pub whole : IsWhole T (scan (drop at T)) at used (record { bytes = f.bytes; next = next }) F F'

module _ (T T₀ : List ℕ) (at used : ℕ) (F F' : List ℕ) (next : ℕ) (same : T₀ ≡ T) where
  -- A frame is answered.
  pub frame_taken : (o : Option Frame) (f : Frame) → o ≡ Some f → FrameRead T₀ (scan (drop at T₀)) at used F F' next (Ok o)
      → FrameTaken T at used f next F F'
  frame_taken o f is h =
      let k : FrameRead T (scan (drop at T)) at used F F' next (Ok (Some f)) = rw (is, same) at h in
      record { more = k.0; place = k.1; whole = whole_taken _ _ _ _ _ _ _ k.2 }

  -- No 2 is answered.
  pub line_spoiled : (x : No) → FrameRead T₀ (scan (drop at T₀)) at used F F' next (Err x)
      → (at < length T) × (x ≡ no_at 2 at) × (scan (drop at T) ≡ bad)
  line_spoiled x h =
      let k : FrameRead T (scan (drop at T)) at used F F' next (Err x) = rw same at h in
      (k.0, k.1, (bad_taken _ _ _ _ _ _ _ refl k.2).0)

  -- The text's end is.
  pub text_over : (o : Option Frame) → o ≡ None → FrameRead T₀ (scan (drop at T₀)) at used F F' next (Ok o)
      → (at ≡ length T) × (F' ≡ F)
  text_over o is h =
      let k : FrameRead T (scan (drop at T)) at used F F' next (Ok None) = rw (is, same) at h in
      k
