-- Numbers that are put one after the other: none yet, one more, over others, and as a list.
use mathlib.Core.Path.{◌≡◌, refl, sym, ap, ◌∙◌}
use mathlib.Core.List.{List, ◌++◌}
use Prim.Native.Nat.{ℕ, ◌+◌, ◌-◌, ◌<◌, ◌≤◌}
use native.Mathlib.Omega.{arith}
use native.Mathlib.Decide.{dec_lt}
use lib.ListN.{length, get_or, set, take, drop, replicate, length-append, length-drop, length-set, get_or-append}
use Rattle.std.proofs.lemmas.List.{get_or-append_right, get_or-replicate, get_or-take, length-replicate}
use lib.Seq.{length-take-le, get_or-set_same, get_or-set_other, get_or-append-add, get_or-drop}
use Rattle.table_numbers.specs.Storing.{NumbersPut}

-- Nothing is put yet.
pub put_none : (f : ℕ → ℕ) (a : ℕ) (I : List ℕ) → NumbersPut f a 0 I I
put_none f a I = record { long = refl; here = λ i h. absurd (omega arith); before = λ k h. refl; behind = λ k h. refl }

module _ {f : ℕ → ℕ} {a n : ℕ} {I I' : List ℕ} (p : NumbersPut f a n I I') (v : ℕ) (inside : a + n < length I) (is : v ≡ f n) where
  -- The numbers with the one that is stored behind them.
  abbrev more : List ℕ
  more = set I' (a + n) v

  -- Each number is there.
  here_more : (i : ℕ) → i < n + 1 → Dec (i < n) → get_or more (a + i) 0 ≡ f i
  here_more i h (yes l) = get_or-set_other I' (a + n) (a + i) v 0 (λ e. omega arith) ∙ p.here i l
  here_more i h (no l) =
      let e : i ≡ n = omega arith in
      ap (λ k. get_or more (a + k) 0) e ∙ get_or-set_same I' (a + n) v 0 (omega (arith, p.long)) ∙ is ∙ ap f (sym e)

  -- One number more is put.
  pub put_more : NumbersPut f a (n + 1) I more
  put_more = record {
    long = length-set I' (a + n) v ∙ p.long;
    here = λ i h. here_more i h (dec_lt i n);
    before = λ k h. get_or-set_other I' (a + n) k v 0 (λ e. omega arith) ∙ p.before k h;
    behind = λ k h. get_or-set_other I' (a + n) k v 0 (λ e. omega arith) ∙ p.behind k (omega arith);
  }

-- A list in front of what was there is put there.
pub put_front : (xs I I' : List ℕ) → length xs ≤ length I → I' ≡ xs ++ drop (length xs) I → NumbersPut (λ k. get_or xs k 0) 0 (length xs) I I'
put_front xs I I' h e =
    let n : ℕ = length xs in
    record {
      long = ap length e ∙ simp (length-append, length-drop) (omega arith);
      here = λ i l.
          let z : 0 + i ≡ i = omega arith in
          ap (λ x. get_or x (0 + i) 0) e ∙ ap (λ k. get_or (xs ++ drop n I) k 0) z ∙ get_or-append xs (drop n I) 0 i l;
      before = λ k l. absurd (omega arith);
      behind = λ k l.
          let d : k ≡ n + (k - n) = omega arith in
          ap (λ x. get_or x k 0) e ∙ ap (λ m. get_or (xs ++ drop n I) m 0) d ∙ get_or-append-add xs (drop n I) (k - n) 0 ∙ get_or-drop n I (k - n) 0
          ∙ ap (λ m. get_or I m 0) (sym d);
    }

-- Zeros that stand in the place of n numbers from place a on are put there.
pub put_zeros : (a n : ℕ) (I I' : List ℕ) → a + n ≤ length I → I' ≡ take a I ++ replicate n 0 ++ drop (a + n) I → NumbersPut (λ _. 0) a n I I'
put_zeros a n I I' h e = record {
  long = ap length e ∙ simp (length-append, length-drop) (omega (arith, front_long, zeros_long));
  here = λ i l.
      ap (λ x. get_or x (a + i) 0) e
      ∙ get_or-append (take a I ++ replicate n 0) (drop (a + n) I) 0 (a + i) (omega (arith, both_long))
      ∙ get_or-append_right (take a I) (replicate n 0) a (a + i) 0 front_long (omega arith)
      ∙ get_or-replicate n (a + i - a) 0 0 (omega arith);
  before = λ k l.
      ap (λ x. get_or x k 0) e
      ∙ get_or-append (take a I ++ replicate n 0) (drop (a + n) I) 0 k (omega (arith, both_long))
      ∙ get_or-append (take a I) (replicate n 0) 0 k (omega (arith, front_long))
      ∙ get_or-take a I k 0 l;
  behind = λ k l.
      let d : a + n + (k - (a + n)) ≡ k = omega arith in
      ap (λ x. get_or x k 0) e
      ∙ get_or-append_right (take a I ++ replicate n 0) (drop (a + n) I) (a + n) k 0 both_long l
      ∙ get_or-drop (a + n) I (k - (a + n)) 0
      ∙ ap (λ m. get_or I m 0) d;
}
  where
    front_long : length (take a I) ≡ a
    front_long = length-take-le a I (omega arith)

    zeros_long : length {A = ℕ} (replicate n 0) ≡ n
    zeros_long = length-replicate n 0

    both_long : length {A = ℕ} (take a I ++ replicate n 0) ≡ a + n
    both_long = length-append (take a I) (replicate n 0) ∙ omega (arith, front_long, zeros_long)
