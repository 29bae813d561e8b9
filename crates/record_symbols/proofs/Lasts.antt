-- Laws of looking through a symbol list for its last symbol: what stands at i goes on, tells 20, or ends the list.
use mathlib.Core.Path.{◌≡◌, refl, sym, ap, ◌∙◌}
use mathlib.Core.List.{List, [], ◌∷◌}
use Prim.Native.Nat.{ℕ, suc, ◌+◌, ◌<◌}
use native.Mathlib.Numerals.{add-one}
use native.Mathlib.Omega.{arith}
use borrow.Author.Tests.{eq-eqb, ne_eqb}
use lib.ListN.{length, get_or, drop, drop_of_length-le}
use lib.Seq.{drop-cons}
use Rattle.words.specs.Reply.{given, refused}
use Rattle.records.specs.Symbols.{last_from, last_symbol}

-- Looking from the first symbol on.
pub last_begins : (ar : List ℕ) → last_symbol ar ≡ last_from 0 (drop 0 ar)
unfolding last_symbol
last_begins ar = refl

-- Looking from the place where the symbols before the last end.
pub last_left : (ar : List ℕ) (i j : ℕ) → j ≡ i → last_symbol ar ≡ last_from j (drop j ar) → last_symbol ar ≡ last_from i (drop i ar)
last_left ar i j e l = l ∙ ap (λ (k : ℕ). last_from k (drop k ar)) e

-- The symbols from i on, where one stands behind that at i.
two_more : (ar : List ℕ) (i : ℕ) → i + 1 < length ar → drop i ar ≡ get_or ar i 0 ∷ get_or ar (suc i) 0 ∷ drop (suc (suc i)) ar
two_more ar i h = drop-cons ar i 0 (omega arith) ∙ ap (λ (r : List ℕ). get_or ar i 0 ∷ r) (drop-cons ar (suc i) 0 (omega arith))

-- The symbols from i on, where that at i is the last.
one_more : (ar : List ℕ) (i : ℕ) → length ar ≡ i + 1 → drop i ar ≡ get_or ar i 0 ∷ []
one_more ar i h = drop-cons ar i 0 (omega arith) ∙ ap (λ (r : List ℕ). get_or ar i 0 ∷ r) (drop_of_length-le ar {i = suc i} (omega arith))

-- Arity 2 before the last symbol: the next one is looked at.
pub last_next : (ar : List ℕ) (i : ℕ) → i + 1 < length ar → get_or ar i 0 ≡ 2 → last_from i (drop i ar) ≡ last_from (i + 1) (drop (i + 1) ar)
unfolding last_from
last_next ar i h e = rw (two_more ar i h, eq-eqb (get_or ar i 0) 2 e, add-one i) (ap (last_from (suc i)) (sym (drop-cons ar (suc i) 0 (omega arith))))

-- Another arity there: 20.
pub last_wrong : (ar : List ℕ) (i : ℕ) → i + 1 < length ar → (get_or ar i 0 ≡ 2 → ⊥) → last_from i (drop i ar) ≡ refused 20 i
unfolding last_from
last_wrong ar i h d = rw (two_more ar i h, ne_eqb (get_or ar i 0) 2 d) refl

-- Arity 0 of the last symbol: it is told.
pub last_told_lem : (ar : List ℕ) (i : ℕ) → length ar ≡ i + 1 → get_or ar i 0 ≡ 0 → last_from i (drop i ar) ≡ given i
unfolding last_from
last_told_lem ar i h e = rw (one_more ar i h, eq-eqb (get_or ar i 0) 0 e) refl

-- Another arity of it: 20.
pub last_strange : (ar : List ℕ) (i : ℕ) → length ar ≡ i + 1 → (get_or ar i 0 ≡ 0 → ⊥) → last_from i (drop i ar) ≡ refused 20 i
unfolding last_from
last_strange ar i h d = rw (one_more ar i h, ne_eqb (get_or ar i 0) 0 d) refl
