-- Digits that are put into places. Definitions only.
use Rattle.std.specs.Prelude.{◌≡◌, List, ◌++◌, ◌⊎◌, ℕ, ◌+◌, ◌*◌, ◌/◌, ◌<◌, ◌≤◌, min, length, take, drop}
use Rattle.text.specs.Lines.{hex_of}
use Rattle.output.specs.Queue.{Flushed, Waiting, TextPut}

-- The digits of the first n bytes stand at the front, n being as many as have two places each; the rest is as it was.
pub record Spelt (bytes P P' : List ℕ) (n : ℕ) : Type 0 where
  pub many : n ≡ min (length bytes) (length P / 2)
  pub digits : P' ≡ hex_of (take n bytes) ++ drop (n * 2) P

-- Two places are left behind `used` and nothing was written; or less than two were left, and the waiting bytes were written
-- or a write has failed.
abbrev pub TwoPlaces : List ℕ → ℕ → ℕ → Type 0
TwoPlaces O used r = ((r ≡ used) × (used + 2 ≤ length O)) ⊎ ((length O < used + 2) × Flushed O used r)

-- The digits of the first n bytes were put; or of none, where there are no bytes or a write has failed, and then it is as if all were.
pub record SpeltSome (bytes : List ℕ) (w w' : Waiting) (n : ℕ) : Type 0 where
  pub few : n ≤ length bytes
  pub some : 0 < n → TextPut (hex_of (take n bytes)) w w'
  pub none : n ≡ 0 → 0 < length bytes → TextPut (hex_of bytes) w w'
