-- Number 20: a list has a last symbol exactly if it is one for records, and otherwise the first wrong index is told.
use mathlib.Core.Path.{◌≡◌, refl, sym, ap, subst, ◌∙◌}
use mathlib.Core.Bool.{not}
use mathlib.Core.List.{List, [], ◌∷◌}
use mathlib.Core.Logic.{⊎_elim, ◌↔◌}
use Prim.Native.Nat.{ℕ, zero, suc, ◌+◌, ◌<◌, ◌≤◌}
use native.Mathlib.Omega.{arith}
use borrow.Author.Tests.{eqb-true, eqb-false, eq-eqb, ne_eqb, not-true, not-false}
use lib.Dec.{eqb}
use lib.ListN.{length, get_or}
use Rattle.words.specs.Reply.{Reply, given, refused}
use Rattle.words.proofs.Replies.{given_refused, given_injective, refuse_given, refuse_refused}
use Rattle.records.specs.Symbols.{RecordSymbols, FirstWrong, last_from, last_symbol}

-- A list with one symbol more before it, which is a label.
label_before : (k : ℕ) (ar : List ℕ) (a : ℕ) → k ≡ 2 → RecordSymbols ar a → RecordSymbols (k ∷ ar) (suc a)
label_before k ar a e s = record { many = ap suc s.many; labels = go; last = s.last }
  where
    go : (l : ℕ) → l < suc a → get_or (k ∷ ar) l 0 ≡ 2
    go zero m = e
    go (suc l) m = s.labels l (omega arith)

-- A list without its first symbol.
label_behind : (k : ℕ) (ar : List ℕ) (a : ℕ) → RecordSymbols (k ∷ ar) (suc a) → RecordSymbols ar a
label_behind k ar a s = record { many = omega (arith, s.many); labels = λ l m. s.labels (suc l) (omega arith); last = s.last }

given_symbols : (ar : List ℕ) (i a : ℕ) → last_from i ar ≡ given a → (d : ℕ) × (a ≡ i + d) × RecordSymbols ar d
unfolding last_from
given_symbols [] i a e = absurd (given_refused a 20 i (sym e))
given_symbols (k ∷ []) i a e =
    let c = refuse_given (not (eqb k 0)) 20 i (given i) a e in
    let z = given_injective i a c.1 in (
      0,
      omega (arith, z),
      record { many = refl; labels = λ l m. absurd (omega arith); last = eqb-true k 0 (not-false (eqb k 0) c.0) },
    )
given_symbols (k ∷ l ∷ ks) i a e =
    let c = refuse_given (not (eqb k 2)) 20 i (last_from (suc i) (l ∷ ks)) a e in
    let g = given_symbols (l ∷ ks) (suc i) a c.1 in
    (suc g.0, omega (arith, g.1), label_before k (l ∷ ks) g.0 (eqb-true k 2 (not-false (eqb k 2) c.0)) g.2)

symbols_given : (ar : List ℕ) (i a : ℕ) → RecordSymbols ar a → last_from i ar ≡ given (i + a)
unfolding last_from
symbols_given [] i a s = absurd (omega (arith, s.many))
symbols_given (k ∷ []) i zero s = rw (eq-eqb k 0 s.last) (ap (λ (z : ℕ). given z) (omega arith))
symbols_given (k ∷ []) i (suc a) s = absurd (omega (arith, s.many))
symbols_given (k ∷ l ∷ ks) i zero s = absurd (omega (arith, s.many))
symbols_given (k ∷ l ∷ ks) i (suc a) s =
    rw (eq-eqb k 2 (s.labels 0 (omega arith))) (symbols_given (l ∷ ks) (suc i) a (label_behind k (l ∷ ks) a s) ∙ ap (λ (z : ℕ). given z) (omega arith))

-- Theorem. A list has last symbol a exactly if it is one for records with that symbol.
pub last_given : (ar : List ℕ) (a : ℕ) → (last_symbol ar ≡ given a) ↔ RecordSymbols ar a
unfolding last_symbol
last_given ar a = (λ e. there (given_symbols ar 0 a e), λ s. symbols_given ar 0 a s ∙ ap (λ (z : ℕ). given z) (omega arith))
  where
    there : ((d : ℕ) × (a ≡ 0 + d) × RecordSymbols ar d) → RecordSymbols ar a
    there g = let i : g.0 ≡ a = omega (arith, g.1) in subst (RecordSymbols ar) i g.2

wrong_first : (k : ℕ) (ks : List ℕ) (i n p : ℕ) → last_from i (k ∷ ks) ≡ refused n p → (n ≡ 20) × ((d : ℕ) × (p ≡ i + d) × FirstWrong (k ∷ ks) d)
unfolding last_from
wrong_first k [] i n p e =
    ⊎_elim (λ c. (
      c.1,
      (
        0,
        omega (arith, c.2),
        record {
          there = omega arith;
          before = λ x m. absurd (omega arith);
          label = λ m z. absurd (omega arith);
          last = λ m z. eqb-false k 0 (not-true (eqb k 0) c.0) z;
        },
      ),
    ))
    (λ c. absurd (given_refused i n p c.1))
    (refuse_refused (not (eqb k 0)) 20 i (given i) n p e)
wrong_first k (l ∷ ks) i n p e =
    ⊎_elim (λ c. (
      c.1,
      (
        0,
        omega (arith, c.2),
        record {
          there = omega arith;
          before = λ x m. absurd (omega arith);
          label = λ m z. eqb-false k 2 (not-true (eqb k 2) c.0) z;
          last = λ m z. absurd (omega arith);
        },
      ),
    ))
    (λ c. more (eqb-true k 2 (not-false (eqb k 2) c.0)) (wrong_first l ks (suc i) n p c.1))
    (refuse_refused (not (eqb k 2)) 20 i (last_from (suc i) (l ∷ ks)) n p e)
  where
    before : (d : ℕ) → k ≡ 2 → ((x : ℕ) → x < d → get_or (l ∷ ks) x 0 ≡ 2) → (x : ℕ) → x < suc d → get_or (k ∷ l ∷ ks) x 0 ≡ 2
    before d z f zero m = z
    before d z f (suc x) m = f x (omega arith)

    more : k ≡ 2 → (n ≡ 20) × ((d : ℕ) × (p ≡ suc i + d) × FirstWrong (l ∷ ks) d) → (n ≡ 20) × ((d : ℕ) × (p ≡ i + d) × FirstWrong (k ∷ l ∷ ks) d)
    more z g = (
      g.0,
      (
        suc g.1.0,
        omega (arith, g.1.1),
        record {
          there = omega (arith, g.1.2.there);
          before = before g.1.0 z g.1.2.before;
          label = λ m. g.1.2.label (omega arith);
          last = λ m. g.1.2.last (omega arith);
        },
      ),
    )

first_refused : (ks : List ℕ) (k i d : ℕ) → FirstWrong (k ∷ ks) d → last_from i (k ∷ ks) ≡ refused 20 (i + d)
unfolding last_from
first_refused [] k i zero w = rw (ne_eqb k 0 (w.last refl)) (ap (λ (z : ℕ). refused 20 z) (omega arith))
first_refused [] k i (suc d) w = absurd (omega (arith, w.there))
first_refused (l ∷ ks) k i zero w = rw (ne_eqb k 2 (w.label (omega arith))) (ap (λ (z : ℕ). refused 20 z) (omega arith))
first_refused (l ∷ ks) k i (suc d) w =
    rw (eq-eqb k 2 (w.before 0 (omega arith)))
    (first_refused ks l (suc i) d
    (record {
      there = omega (arith, w.there);
      before = λ x m. w.before (suc x) (omega arith);
      label = λ m. w.label (omega arith);
      last = λ m. w.last (omega arith);
    })
    ∙ ap (λ (z : ℕ). refused 20 z) (omega arith))

some_refused : (k : ℕ) (ks : List ℕ) (n p : ℕ) → (last_symbol (k ∷ ks) ≡ refused n p) ↔ ((n ≡ 20) × FirstWrong (k ∷ ks) p)
unfolding last_symbol
some_refused k ks n p = (λ e. there (wrong_first k ks 0 n p e), λ w. first_refused ks k 0 p w.1 ∙ back w.0)
  where
    there : (n ≡ 20) × ((d : ℕ) × (p ≡ 0 + d) × FirstWrong (k ∷ ks) d) → (n ≡ 20) × FirstWrong (k ∷ ks) p
    there g = let i : g.1.0 ≡ p = omega (arith, g.1.1) in (g.0, subst (FirstWrong (k ∷ ks)) i g.1.2)

    back : n ≡ 20 → ◌≡◌ {A = Reply ℕ} (refused 20 (0 + p)) (refused n p)
    back e = let i : 0 + p ≡ p = omega arith in rw (i, e)

-- Theorem. A list with a symbol is refused exactly with 20 at its first wrong index.
pub last_refused : (ar : List ℕ) (n p : ℕ) → 1 ≤ length ar → (last_symbol ar ≡ refused n p) ↔ ((n ≡ 20) × FirstWrong ar p)
last_refused [] n p h = absurd (omega arith)
last_refused (k ∷ ks) n p h = some_refused k ks n p

-- The last symbol is the last of the list.
pub last_length : (ar : List ℕ) (a : ℕ) → last_symbol ar ≡ given a → suc a ≡ length ar
last_length ar a e = sym ((last_given ar a).0 e).many
