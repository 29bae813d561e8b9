-- The symbol lists for records: number 20. Definitions only.
use Rattle.std.specs.Prelude.{◌≡◌, not, List, [], ◌∷◌, ℕ, suc, ◌<◌, eqb, length, get_or}
use Rattle.words.specs.Reply.{Reply, given, refused, refuse_if}

-- A symbol list for records with last symbol a: all symbols have arity 2, the last has 0.
pub record RecordSymbols (ar : List ℕ) (a : ℕ) : Type 0 where
  pub many : length ar ≡ suc a
  pub labels : (l : ℕ) → l < a → get_or ar l 0 ≡ 2
  pub last : get_or ar a 0 ≡ 0

-- Index d is the first wrong one: its arity is not 2, or not 0 if it is the last, and those before it have 2.
pub record FirstWrong (ar : List ℕ) (d : ℕ) : Type 0 where
  pub there : d < length ar
  pub before : (e : ℕ) → e < d → get_or ar e 0 ≡ 2
  pub label : suc d < length ar → get_or ar d 0 ≡ 2 → ⊥
  pub last : suc d ≡ length ar → get_or ar d 0 ≡ 0 → ⊥

-- The last symbol of a list whose first has number i; 20 at the first wrong index: an arity that is not 2, or not 0 for the last.
unfoldable pub last_from : ℕ → List ℕ → Reply ℕ
last_from i [] = refused 20 i
last_from i (k ∷ []) = refuse_if (not (eqb k 0)) 20 i (given i)
last_from i (k ∷ l ∷ ks) = refuse_if (not (eqb k 2)) 20 i (last_from (suc i) (l ∷ ks))

-- The last symbol of a list for records, which means "absent"; or 20.
unfoldable pub last_symbol : List ℕ → Reply ℕ
last_symbol ar = last_from 0 ar
