-- What counting a stream through keeps behind a byte. Definitions only.
use Rattle.std.specs.Prelude.{◌≡◌, true, false, List, ◌⊎◌, ℕ, suc, ◌+◌, ◌<◌, eqb, ltb, length, get_or}

-- The index at which all would be closed if closes alone came: two more behind byte b, if that is not the close c.
abbrev pub end_behind : ℕ → ℕ → ℕ → ℕ
end_behind c b end = elim (eqb b c) [ true ↦ end | false ↦ end + 2 ]

-- A count of labels: one more behind byte b, if that is below a.
abbrev pub labels_behind : ℕ → ℕ → ℕ → ℕ
labels_behind a b n = elim (ltb b a) [ true ↦ suc n | false ↦ n ]

-- The bytes s stand at place p, which is 0, and the first is a label.
pub record FirstLabel (a p : ℕ) (s : List ℕ) : Type 0 where
  pub place : p ≡ 0
  pub some : 0 < length s
  pub label : get_or s 0 0 < a

-- How many bytes are taken as a stream's beginning: none, or the first, if it is a label at place 0.
abbrev pub Beginning : ℕ → ℕ → List ℕ → ℕ → Type 0
Beginning a p s n = (n ≡ 0) ⊎ ((n ≡ 1) × FirstLabel a p s)
