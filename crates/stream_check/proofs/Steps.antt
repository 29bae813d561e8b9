-- What the counter of open elements answers at a stream's end, and of a whole stream.
use mathlib.Core.Path.{◌≡◌, refl, ap, ◌∙◌}
use mathlib.Core.Bool.{Bool}
use mathlib.Core.List.{List}
use Prim.Native.Nat.{ℕ, zero, suc, ◌+◌, ◌<◌, ◌≤◌}
use native.Mathlib.Omega.{arith}
use borrow.Author.Tests.{lt-ltb, le-ltb}
use lib.Dec.{ltb}
use lib.ListN.{length}
use Rattle.words.specs.declared.No.{No}
use Rattle.words.specs.Reply.{Reply, given, refusal, refused, ◌then◌}
use Rattle.records.specs.Counter.{StreamMarks, marks, ending#, marks_from, marks_of, check_stream}
pub use Rattle.stream_count.proofs.Steps.{step_most}

-- The end, with nothing open and something read, with nothing read, and with something open.
pub ending_whole : (n p : ℕ) → n ≡ 0 → 0 < p → ending# n (ltb 0 p) p ≡ given tt
ending_whole zero p e h = ap (λ (t : Bool). ending# zero t p) (lt-ltb 0 p h)
ending_whole (suc n) p e h = absurd (omega arith)

pub ending_nothing : (n p : ℕ) → n ≡ 0 → p ≤ 0 → ending# n (ltb 0 p) p ≡ refused 22 p
ending_nothing zero p e h = ap (λ (t : Bool). ending# zero t p) (le-ltb 0 p h)
ending_nothing (suc n) p e h = absurd (omega arith)

pub ending_open : (n : ℕ) (t : Bool) (p : ℕ) → 0 < n → ending# n t p ≡ refused 22 p
ending_open zero t p h = absurd (omega arith)
ending_open (suc n) t p h = refl

module _ (c a : ℕ) (s : List ℕ) where
  -- A refusal of the bytes is that of the whole stream.
  pub check_refused : {x : No} → refusal x ≡ marks_from c a (marks 0 (ltb 0 0)) 0 s → refusal x ≡ check_stream c a s
  unfolding check_stream marks_of
  check_refused e = ap (λ (o : Reply StreamMarks). o then λ m. ending# m.open_now m.begun (length s)) e

  -- Behind the last byte the end tells.
  pub check_ended : {n : ℕ} → given (marks n (ltb 0 (0 + length s))) ≡ marks_from c a (marks 0 (ltb 0 0)) 0 s
      → ending# n (ltb 0 (length s)) (length s) ≡ check_stream c a s
  unfolding check_stream marks_of
  check_ended {n} e =
      let z : length s ≡ 0 + length s = omega arith in
      ap (λ (k : ℕ). ending# n (ltb 0 k) (length s)) z ∙ ap (λ (o : Reply StreamMarks). o then λ m. ending# m.open_now m.begun (length s)) e
