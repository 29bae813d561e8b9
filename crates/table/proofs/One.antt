-- One text and one lent room have one answer: two answers that meet the contract of opening are the same, with the same bytes and numbers.
use mathlib.Core.Path.{◌≡◌, refl, sym, ap, ◌∙◌}
use mathlib.Core.List.{List}
use Prim.Native.Nat.{ℕ, zero, suc, ◌+◌, ◌*◌, ◌-◌, ◌/◌, ◌%◌, ◌<◌, ◌≤◌}
use native.Mathlib.Omega.{arith}
use native.Mathlib.Decide.{dec_lt}
use lib.ListN.{length, get_or}
use lib.Seq.{ext_get_or}
use Rattle.words.specs.Reply.{Reply, given, refusal}
use Rattle.machine.specs.Machine.{Table}
use Rattle.layout.specs.Layout.{HeadIn, Opened}
use Rattle.table.specs.Opening.{Opens, Unchanged}
use Rattle.table_numbers.specs.Storing.{Beyond}

-- Two heads of one table are the same.
head_same : {I J : List ℕ} {M : Table} → HeadIn I M → HeadIn J M → (k : ℕ) → k < 6 → get_or I k 0 ≡ get_or J k 0
head_same a b zero l = a.symbols ∙ sym b.symbols
head_same a b (suc zero) l = a.states ∙ sym b.states
head_same a b (suc (suc zero)) l = a.start ∙ sym b.start
head_same a b (suc (suc (suc zero))) l = a.rules ∙ sym b.rules
head_same a b (suc (suc (suc (suc zero)))) l = a.before ∙ sym b.before
head_same a b (suc (suc (suc (suc (suc zero))))) l = a.after ∙ sym b.after
head_same a b (suc (suc (suc (suc (suc (suc k)))))) l = absurd (omega arith)

module _ {F F' I I₁ I₂ : List ℕ} {M : Table} (a : Opened F I₁ M) (b : Opened F' I₂ M) (x : Beyond I I₁ M) (y : Beyond I I₂ M) where
  -- The head and the two places behind it are the same.
  front_same : (k : ℕ) → k < 8 → Dec (k < 6) → get_or I₁ k 0 ≡ get_or I₂ k 0
  front_same k l (yes h) = head_same a.head b.head k h
  front_same k l (no h) = x.blank k (omega arith) l ∙ sym (y.blank k (omega arith) l)

  -- The states' first rules are, and what stands behind them.
  firsts_same : (k : ℕ) → 8 ≤ k → k < 80 → Dec (8 + M.states < k) → get_or I₁ k 0 ≡ get_or I₂ k 0
  firsts_same k l m (yes h) = x.firsts k h m ∙ sym (y.firsts k h m)
  firsts_same k l m (no h) =
      let e : k ≡ 8 + (k - 8) = omega arith in
      let q : k - 8 ≤ M.states = omega arith in
      ap (λ n. get_or I₁ n 0) e ∙ a.firsts (k - 8) q ∙ sym (b.firsts (k - 8) q) ∙ ap (λ n. get_or I₂ n 0) (sym e)

  -- The rows' numbers are, and what stands behind them.
  rows_same : (k : ℕ) → 80 ≤ k → k < 592 → Dec (k < 80 + length M.rows) → get_or I₁ k 0 ≡ get_or I₂ k 0
  rows_same k l m (yes h) =
      let e : k ≡ 80 + (k - 80) = omega arith in
      let i : k - 80 < length M.rows = omega arith in
      ap (λ n. get_or I₁ n 0) e ∙ a.listed (k - 80) i ∙ sym (b.listed (k - 80) i) ∙ ap (λ n. get_or I₂ n 0) (sym e)
  rows_same k l m (no h) = x.rules k (omega arith) m ∙ sym (y.rules k (omega arith) m)

  -- What is kept for states and symbols is, and what stands behind it.
  grid_same : (k : ℕ) → 592 ≤ k → Dec (k < 592 + M.states * 64) → get_or I₁ k 0 ≡ get_or I₂ k 0
  grid_same k l (yes h) =
      let q : ℕ = (k - 592) / 64 in
      let f : ℕ = (k - 592) % 64 in
      let e : k ≡ 592 + (q * 64 + f) = omega arith in
      let s : q < M.states = omega arith in
      let t : f < 64 = omega arith in
      ap (λ n. get_or I₁ n 0) e ∙ a.grid q f s t ∙ sym (b.grid q f s t) ∙ ap (λ n. get_or I₂ n 0) (sym e)
  grid_same k l (no h) = x.grid k (omega arith) ∙ sym (y.grid k (omega arith))

  -- Each number is the same.
  number_same : (k : ℕ) → Dec (k < 8) → Dec (k < 80) → Dec (k < 592) → get_or I₁ k 0 ≡ get_or I₂ k 0
  number_same k (yes h) e f = front_same k h (dec_lt k 6)
  number_same k (no h) (yes e) f = firsts_same k (omega arith) e (dec_lt (8 + M.states) k)
  number_same k (no h) (no e) (yes f) = rows_same k (omega arith) f (dec_lt k (80 + length M.rows))
  number_same k (no h) (no e) (no f) = grid_same k (omega arith) (dec_lt k (592 + M.states * 64))

  -- So all numbers are.
  numbers_same : I₁ ≡ I₂
  numbers_same = ext_get_or 0 I₁ I₂ (a.numbers ∙ sym b.numbers) λ k h. number_same k (dec_lt k 8) (dec_lt k 80) (dec_lt k 592)

-- Two answers to one reply, from the same lent bytes F and numbers I.
pub open_one : (F I : List ℕ) (o : Reply Table) (r r' : Reply (Unit {0})) (F₁ I₁ F₂ I₂ : List ℕ) → Opens F₁ I₁ o r → Unchanged F I F₁ I₁ o → Opens F₂ I₂ o r'
    → Unchanged F I F₂ I₂ o → (r ≡ r') × (F₁ ≡ F₂) × (I₁ ≡ I₂)
open_one F I (given M) (given _) (given _) F₁ I₁ F₂ I₂ a u b v = (refl, u.0 ∙ sym v.0, numbers_same a b u.1 v.1)
open_one F I (given M) (given _) (refusal y) F₁ I₁ F₂ I₂ a u b v = absurd b
open_one F I (given M) (refusal x) r' F₁ I₁ F₂ I₂ a u b v = absurd a
open_one F I (refusal o) (given _) r' F₁ I₁ F₂ I₂ a u b v = absurd a
open_one F I (refusal o) (refusal x) (given _) F₁ I₁ F₂ I₂ a u b v = absurd b
open_one F I (refusal o) (refusal x) (refusal y) F₁ I₁ F₂ I₂ a u b v =
    (ap refusal (a ∙ sym b), u.0 ∙ sym v.0, u.1 ∙ sym v.1)
