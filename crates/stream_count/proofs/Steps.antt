-- What the counter of open elements answers for one byte, at the next byte of a stream, and behind its last.
use mathlib.Core.Path.{◌≡◌, refl, sym, ap, ◌∙◌}
use mathlib.Core.Bool.{Bool, true, false, not}
use mathlib.Core.List.{List}
use Prim.Native.Nat.{ℕ, zero, suc, ◌+◌, ◌-◌, ◌<◌, ◌≤◌}
use native.Mathlib.Omega.{arith}
use borrow.Author.Tests.{eq-eqb, ne_eqb, lt-ltb, le-ltb}
use lib.Dec.{eqb, ltb}
use lib.ListN.{length, get_or, drop}
use lib.Seq.{drop-cons, drop-length}
use Rattle.words.specs.declared.No.{No}
use Rattle.words.specs.Reply.{Reply, given, refusal, refused, ◌then◌, refuse_if}
use Rattle.words.proofs.Replies.{given_refused, given_injective}
use Rattle.records.specs.Counter.{StreamMarks, marks, closing#, opening#, step#, marks_from}

-- The close, with nothing open and with something.
pub shut_none : (n p : ℕ) → n ≡ 0 → closing# n p ≡ refused 22 p
shut_none zero p e = refl
shut_none (suc n) p e = absurd (omega arith)

pub shut_one : (n p : ℕ) → 0 < n → closing# n p ≡ given (marks (n - 1) true)
shut_one zero p h = absurd (omega arith)
shut_one (suc n) p h = ap (λ (k : ℕ). given (marks k true)) (omega arith)

-- The label, with nothing open behind something read and at the beginning, and with something open.
pub label_again : (n p : ℕ) → n ≡ 0 → 0 < p → opening# n (ltb 0 p) p ≡ refused 23 p
label_again zero p e h = ap (λ (t : Bool). opening# zero t p) (lt-ltb 0 p h)
label_again (suc n) p e h = absurd (omega arith)

pub label_root : (n p : ℕ) → n ≡ 0 → p ≤ 0 → opening# n (ltb 0 p) p ≡ given (marks 1 true)
label_root zero p e h = ap (λ (t : Bool). opening# zero t p) (le-ltb 0 p h)
label_root (suc n) p e h = absurd (omega arith)

pub label_inside : (n p : ℕ) (t : Bool) → 0 < n → opening# n t p ≡ given (marks (n + 1) true)
label_inside zero p t h = absurd (omega arith)
label_inside (suc n) p t h = ap (λ (k : ℕ). given (marks k true)) (omega arith)

-- What a byte is told by its two tests: whether it closes, and whether it is below the last symbol.
abbrev by_tests : StreamMarks → ℕ → Bool → Bool → Reply StreamMarks
by_tests m p t u = elim t [ true ↦ closing# m.open_now p | false ↦ refuse_if (not u) 21 p (opening# m.open_now m.begun p) ]

module _ (c a : ℕ) (m : StreamMarks) (p b : ℕ) where
  -- A byte that closes.
  pub step_close : b ≡ c → step# c a m p b ≡ closing# m.open_now p
  step_close e = ap (λ (t : Bool). by_tests m p t (ltb b a)) (eq-eqb b c e)

  -- A byte that neither closes nor is a label.
  pub step_strange : (b ≡ c → ⊥) → a ≤ b → step# c a m p b ≡ refused 21 p
  step_strange d h = ap (λ (t : Bool). by_tests m p t (ltb b a)) (ne_eqb b c d) ∙ ap (λ (t : Bool). by_tests m p false t) (le-ltb b a h)

  -- A label.
  pub step_label : (b ≡ c → ⊥) → b < a → step# c a m p b ≡ opening# m.open_now m.begun p
  step_label d h = ap (λ (t : Bool). by_tests m p t (ltb b a)) (ne_eqb b c d) ∙ ap (λ (t : Bool). by_tests m p false t) (lt-ltb b a h)

  -- One byte opens one element at most.
  pub step_most : (m' : StreamMarks) → step# c a m p b ≡ given m' → m'.open_now ≤ suc m.open_now
  step_most m' e = go (eqb b c) (ltb b a) m.open_now m.begun e
    where
      go : (t u : Bool) (n : ℕ) (g : Bool) → by_tests (marks n g) p t u ≡ given m' → m'.open_now ≤ suc n
      go true u zero g e = absurd (given_refused m' 22 p (sym e))
      go true u (suc n) g e = let i = given_injective (marks n true) m' e in omega (arith, ap (λ (z : StreamMarks). z.open_now) i)
      go false false n g e = absurd (given_refused m' 21 p (sym e))
      go false true zero true e = absurd (given_refused m' 23 p (sym e))
      go false true zero false e = let i = given_injective (marks 1 true) m' e in omega (arith, ap (λ (z : StreamMarks). z.open_now) i)
      go false true (suc n) g e = let i = given_injective (marks (suc (suc n)) true) m' e in omega (arith, ap (λ (z : StreamMarks). z.open_now) i)

-- The counter at byte i of a stream whose first byte has place p, and at its end.
pub marks_at : (c a : ℕ) (m : StreamMarks) (s : List ℕ) (p i : ℕ) → i < length s
    → marks_from c a m (p + i) (drop i s) ≡ step# c a m (p + i) (get_or s i 0) then λ m'. marks_from c a m' (suc (p + i)) (drop (suc i) s)
unfolding marks_from
marks_at c a m s p i h = ap (marks_from c a m (p + i)) (drop-cons s i 0 h)

pub marks_end : (c a : ℕ) (m : StreamMarks) (s : List ℕ) (p : ℕ) → marks_from c a m p (drop (length s) s) ≡ given m
unfolding marks_from
marks_end c a m s p = ap (marks_from c a m p) (drop-length s)

-- Byte i of a stream is looked at next, n elements are open there, and what is told from there on is told of the whole.
pub record LookedUpTo (c a n₀ p : ℕ) (s : List ℕ) (n i : ℕ) : Type 0 where
  pub inside : i ≤ length s
  pub few : n ≤ p + i
  pub told : marks_from c a (marks n₀ (ltb 0 p)) p s ≡ marks_from c a (marks n (ltb 0 (p + i))) (p + i) (drop i s)

-- Before the first byte.
pub looked_none : (c a n p : ℕ) (s : List ℕ) → n ≤ p → LookedUpTo c a n p s n 0
looked_none c a n p s h =
    let e : p ≡ p + 0 = omega arith in
    record { inside = omega arith; few = omega arith; told = ap (λ (q : ℕ). marks_from c a (marks n (ltb 0 q)) q s) e }

module _ {c a n₀ p : ℕ} {s : List ℕ} {n i : ℕ} (l : LookedUpTo c a n₀ p s n i) (h : i < length s) where
  -- A refusal of byte i is that of the whole.
  pub looked_refused : (x : No) → refusal x ≡ step# c a (marks n (ltb 0 (p + i))) (p + i) (get_or s i 0)
      → refusal x ≡ marks_from c a (marks n₀ (ltb 0 p)) p s
  looked_refused x e =
      ap (λ (o : Reply StreamMarks). o then λ m'. marks_from c a m' (suc (p + i)) (drop (suc i) s)) e
      ∙ sym (marks_at c a (marks n (ltb 0 (p + i))) s p i h) ∙ sym l.told

  -- Behind a byte that leaves k elements open.
  pub looked_more : (k : ℕ) → given (marks k true) ≡ step# c a (marks n (ltb 0 (p + i))) (p + i) (get_or s i 0) → LookedUpTo c a n₀ p s k (i + 1)
  looked_more k e =
      let f = l.few in
      let j : suc i ≡ i + 1 = omega arith in
      let q : suc (p + i) ≡ p + (i + 1) = omega arith in
      let m = step_most c a (marks n (ltb 0 (p + i))) (p + i) (get_or s i 0) (marks k true) (sym e) in
      record {
        inside = omega arith;
        few = omega (arith, m);
        told =
            l.told ∙ marks_at c a (marks n (ltb 0 (p + i))) s p i h
            ∙ ap (λ (o : Reply StreamMarks). o then λ m'. marks_from c a m' (suc (p + i)) (drop (suc i) s)) (sym e)
            ∙ ap (λ (t : Bool). marks_from c a (marks k t) (suc (p + i)) (drop (suc i) s)) (sym (lt-ltb 0 (suc (p + i)) (omega arith)))
            ∙ ap (λ (y : ℕ). marks_from c a (marks k (ltb 0 y)) y (drop (suc i) s)) q
            ∙ ap (λ (x : ℕ). marks_from c a (marks k (ltb 0 (p + (i + 1)))) (p + (i + 1)) (drop x s)) j;
      }

-- Behind the last byte.
pub looked_all : {c a n₀ p : ℕ} {s : List ℕ} {n i : ℕ} → LookedUpTo c a n₀ p s n i → length s ≤ i
    → given (marks n (ltb 0 (p + length s))) ≡ marks_from c a (marks n₀ (ltb 0 p)) p s
looked_all {c} {a} {n₀} {p} {s} {n} {i} l h =
    let j = l.inside in
    let e : i ≡ length s = omega arith in
    sym (marks_end c a (marks n (ltb 0 (p + length s))) s (p + length s))
    ∙ ap (λ (k : ℕ). marks_from c a (marks n (ltb 0 (p + k))) (p + k) (drop k s)) (sym e) ∙ sym l.told
