-- What is put into a buffer of which the first `used` bytes wait to be written. Definitions only.
use Rattle.std.specs.Prelude.{◌≡◌, List, ◌++◌, ◌⊎◌, ℕ, ◌+◌, ◌<◌, ◌≤◌, length, take, set, Option, Some, None}
use Rattle.output.specs.declared.buffer.Out.{Out}

-- The number that says that a write has failed.
abbrev pub stopped : ℕ
stopped = 18446744073709551615

-- A text t was put behind the first `used` bytes of O: then r bytes of O' wait. Where t fits, nothing was written.
-- Unless a write has failed, what was written and what waits, in a row, are what waited before and t.
pub record Queued (t O : List ℕ) (used : ℕ) (O' : List ℕ) (r : ℕ) : Type 0 where
  pub kept : length O' ≡ length O
  pub fits : used + length t ≤ length O → r ≡ used + length t
  pub row : r < stopped → (used < stopped) × ((written : List ℕ) × (written ++ take r O' ≡ take used O ++ t))

-- The waiting bytes were all written, and none wait; or a write has failed.
abbrev pub Flushed : List ℕ → ℕ → ℕ → Type 0
Flushed O used r = ((r ≡ 0) × (used ≤ length O) × (used < stopped)) ⊎ (r ≡ stopped)

-- What waits in a lent buffer: its bytes, how many of them at their start wait, or that a write has failed, and which lent buffer it is.
pub record Waiting : Type 0 where
  pub bytes : List ℕ
  pub used : ℕ
  pub lent : ℕ

-- How many bytes wait, or the number that says that a write has failed.
abbrev pub count : Option ℕ → ℕ
count (Some n) = n
count None = stopped

-- What waits in the buffer that an Out holds.
abbrev pub seen : Out → Waiting
seen o = record { bytes = o.bytes.now; used = count o.waiting; lent = o.bytes.ghost_name }

-- The lent buffer is still the same, and as long.
abbrev pub SameBuffer : Waiting → Waiting → Type 0
SameBuffer w w' = (w'.lent ≡ w.lent) × (length w'.bytes ≡ length w.bytes)

-- A text was put behind the bytes that wait, in the same lent buffer.
pub record TextPut (t : List ℕ) (w w' : Waiting) : Type 0 where
  pub queued : Queued t w.bytes w.used w'.bytes w'.used
  pub same_buffer : w'.lent ≡ w.lent

-- A byte was stored behind the bytes that wait, in the same lent buffer.
pub record Stored (b : ℕ) (w w' : Waiting) : Type 0 where
  pub place : w.used < length w.bytes
  pub going : w.used < stopped
  pub bytes : w'.bytes ≡ set w.bytes w.used b
  pub used : w'.used ≡ w.used + 1
  pub same_buffer : w'.lent ≡ w.lent
