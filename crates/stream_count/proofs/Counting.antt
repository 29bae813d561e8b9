-- Counting a stream through: the index where all is closed if closes alone come, and the labels, against the counter of open elements.
use mathlib.Core.Path.{◌≡◌, refl, sym, ap, subst, subst⁻¹, ◌∙◌}
use mathlib.Core.Bool.{Bool, true, false}
use mathlib.Core.List.{List}
use mathlib.Core.Logic.{inl, inr}
use Prim.Native.Nat.{ℕ, suc, ◌+◌, ◌-◌, ◌*◌, ◌<◌, ◌≤◌}
use native.Mathlib.Numerals.{add-one}
use native.Mathlib.Omega.{arith}
use borrow.Author.Tests.{eq-eqb, ne_eqb, eqb-true, ltb-true, lt-ltb, le-ltb}
use lib.Dec.{eqb, ltb}
use lib.ListN.{length, get_or}
use Rattle.words.specs.Reply.{given}
use Rattle.records.specs.Counter.{StreamMarks, marks, closing#, opening#, step#, marks_from}
use Rattle.stream_count.specs.Behind.{end_behind, labels_behind, Beginning, FirstLabel}
use Rattle.stream_count.proofs.Steps as law
use Rattle.stream_count.proofs.Steps.{LookedUpTo}

-- A beginning is one byte at most.
pub beginning_most : {a p : ℕ} {s : List ℕ} {n : ℕ} → Beginning a p s n → n ≤ 1
beginning_most (inl e) = omega (arith, e)
beginning_most (inr h) = omega (arith, h.0)

-- Behind the close c the index stays, and behind another byte it is two further.
pub end_stays : (c b end : ℕ) → b ≡ c → end ≡ end_behind c b end
end_stays c b end e = sym (ap (λ (t : Bool). elim t as (λ x. ℕ) [ true ↦ end | false ↦ end + 2 ]) (eq-eqb b c e))

pub end_further : (c b end : ℕ) → (b ≡ c → ⊥) → end + 2 ≡ end_behind c b end
end_further c b end d = sym (ap (λ (t : Bool). elim t as (λ x. ℕ) [ true ↦ end | false ↦ end + 2 ]) (ne_eqb b c d))

-- Behind a label there is one more, and behind another byte there are as many.
pub labels_more : (a b n : ℕ) → b < a → n + 1 ≡ labels_behind a b n
labels_more a b n h = add-one n ∙ sym (ap (λ (t : Bool). elim t as (λ x. ℕ) [ true ↦ suc n | false ↦ n ]) (lt-ltb b a h))

pub labels_same : (a b n : ℕ) → a ≤ b → n ≡ labels_behind a b n
labels_same a b n h = sym (ap (λ (t : Bool). elim t as (λ x. ℕ) [ true ↦ suc n | false ↦ n ]) (le-ltb b a h))

-- Byte i of a stream is next. So many labels stand before it, and at index `end` all would be closed if closes alone came. Where labels
-- alone have moved that index, the elements that are open are as many as it is ahead.
pub record CountedUpTo (c a n₀ p : ℕ) (s : List ℕ) (i end labels : ℕ) : Type 0 where
  pub inside : i ≤ length s
  pub low : i ≤ end
  pub high : end ≤ n₀ + 2 * i
  pub most : n₀ + 2 * labels ≤ end
  pub sure : end ≡ n₀ + 2 * labels → LookedUpTo c a n₀ p s (end - i) i

module _ {c a n₀ p : ℕ} {s : List ℕ} (few : n₀ ≤ p) (apart : a ≤ c) where
  -- Before the first byte.
  counted_none : CountedUpTo c a n₀ p s 0 (n₀ + 2 * 0) 0
  counted_none =
      let e : n₀ ≡ n₀ + 2 * 0 - 0 = omega arith in
      record {
        inside = omega arith;
        low = omega arith;
        high = omega arith;
        most = omega arith;
        sure = λ z. subst (λ (n : ℕ). LookedUpTo c a n₀ p s n 0) e (law.looked_none c a n₀ p s few);
      }

  -- Behind the first byte of a stream, where that is a label.
  counted_first : FirstLabel a p s → CountedUpTo c a n₀ p s 1 (n₀ + 2 * 1) 1
  counted_first f =
      let z : n₀ ≡ 0 = omega (arith, few, f.place) in
      let b = get_or s 0 0 in
      let g = marks n₀ (ltb 0 (p + 0)) in
      let e : given (marks 1 true) ≡ step# c a g (p + 0) b =
      sym (law.step_label c a g (p + 0) b (λ x. omega (arith, f.label)) f.label ∙ law.label_root n₀ (p + 0) z (omega (arith, f.place))) in
      let k : 1 ≡ n₀ + 2 * 1 - 1 = omega arith in
      record {
        inside = f.some;
        low = omega arith;
        high = omega arith;
        most = omega arith;
        sure = λ y. subst (λ (n : ℕ). LookedUpTo c a n₀ p s n 1) k (law.looked_more (law.looked_none c a n₀ p s few) f.some 1 e);
      }

  -- Where counting begins.
  pub counted_begun : (n : ℕ) → Beginning a p s n → CountedUpTo c a n₀ p s n (n₀ + 2 * n) n
  counted_begun n (inl e) = subst (λ (k : ℕ). CountedUpTo c a n₀ p s k (n₀ + 2 * k) k) (sym e) counted_none
  counted_begun n (inr h) = subst (λ (k : ℕ). CountedUpTo c a n₀ p s k (n₀ + 2 * k) k) (sym h.0) (counted_first h.1)

module _ {c a n₀ p : ℕ} {s : List ℕ} {i end labels : ℕ} (apart : a ≤ c) (u : CountedUpTo c a n₀ p s i end labels) (h : i < length s) (d : i < end) where
  -- The byte that is next, and the marks before it.
  byte : ℕ
  byte = get_or s i 0

  before : StreamMarks
  before = marks (end - i) (ltb 0 (p + i))

  -- Behind a close.
  counted_close : byte ≡ c → CountedUpTo c a n₀ p s (i + 1) end labels
  unfolding byte before
  counted_close e =
      let j = u.high in
      let k : end - i - 1 ≡ end - (i + 1) = omega arith in
      let t : closing# (end - i) (p + i) ≡ given (marks (end - (i + 1)) true) =
      law.shut_one (end - i) (p + i) (omega arith) ∙ ap (λ (n : ℕ). given (marks n true)) k in
      record {
        inside = omega arith;
        low = omega arith;
        high = omega arith;
        most = u.most;
        sure = λ z. law.looked_more (u.sure z) h (end - (i + 1)) (sym (law.step_close c a before (p + i) byte e ∙ t));
      }

  -- Behind a label.
  counted_label : byte < a → CountedUpTo c a n₀ p s (i + 1) (end + 2) (suc labels)
  unfolding byte before
  counted_label l =
      let j = u.high in
      let m = u.most in
      let k : end - i + 1 ≡ end + 2 - (i + 1) = omega arith in
      let t : opening# (end - i) (ltb 0 (p + i)) (p + i) ≡ given (marks (end + 2 - (i + 1)) true) =
      law.label_inside (end - i) (p + i) (ltb 0 (p + i)) (omega arith) ∙ ap (λ (n : ℕ). given (marks n true)) k in
      record {
        inside = omega arith;
        low = omega arith;
        high = omega arith;
        most = omega arith;
        sure = λ z.
            law.looked_more (u.sure (omega (arith, z))) h (end + 2 - (i + 1))
            (sym (law.step_label c a before (p + i) byte (λ x. omega (arith, l, x)) l ∙ t));
      }

  -- Behind another byte it is not sure any more.
  counted_other : CountedUpTo c a n₀ p s (i + 1) (end + 2) labels
  counted_other =
      let j = u.high in
      let m = u.most in
      record {
        inside = omega arith;
        low = omega arith;
        high = omega arith;
        most = omega arith;
        sure = λ z. absurd (omega (arith, z));
      }

  -- Behind any byte.
  counted_any : CountedUpTo c a n₀ p s (i + 1) (end_behind c (get_or s i 0) end) (labels_behind a (get_or s i 0) labels)
  unfolding byte before
  counted_any = go (eqb byte c) (ltb byte a) refl refl
    where
      go : (t v : Bool) → eqb byte c ≡ t → ltb byte a ≡ v
          → CountedUpTo c a n₀ p s (i + 1) (elim t [ true ↦ end | false ↦ end + 2 ]) (elim v [ true ↦ suc labels | false ↦ labels ])
      go true true e l = absurd (omega (arith, eqb-true byte c e, ltb-true byte a l, apart))
      go true false e l = counted_close (eqb-true byte c e)
      go false true e l = counted_label (ltb-true byte a l)
      go false false e l = counted_other

  pub counted_more : {e k : ℕ} → e ≡ end_behind c (get_or s i 0) end → k ≡ labels_behind a (get_or s i 0) labels → CountedUpTo c a n₀ p s (i + 1) e k
  counted_more {e} {k} x y =
      subst⁻¹ (λ (z : ℕ). CountedUpTo c a n₀ p s (i + 1) z k) x
      (subst⁻¹ (λ (z : ℕ). CountedUpTo c a n₀ p s (i + 1) (end_behind c (get_or s i 0) end) z) y counted_any)

-- Behind the last byte.
pub counted_all : {c a n₀ p : ℕ} {s : List ℕ} {i end labels : ℕ} → CountedUpTo c a n₀ p s i end labels → length s ≤ i → end ≡ n₀ + 2 * labels
    → marks_from c a (marks n₀ (ltb 0 p)) p s ≡ given (marks (end - length s) (ltb 0 (p + length s)))
counted_all {c} {a} {n₀} {p} {s} {i} {end} u h e =
    let j = u.inside in
    let z : i ≡ length s = omega arith in
    sym (subst (λ (k : ℕ). given (marks (end - k) (ltb 0 (p + length s))) ≡ marks_from c a (marks n₀ (ltb 0 p)) p s) z (law.looked_all (u.sure e) h))
