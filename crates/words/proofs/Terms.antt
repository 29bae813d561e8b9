-- The spaces of a word.
use mathlib.Core.Path.{◌≡◌}
use mathlib.Core.Bool.{Bool, true, false}
use mathlib.Core.List.{[], ◌∷◌, ◌++◌}
use Prim.Native.Nat.{ℕ, suc, ◌+◌, ◌≤◌}
use native.Mathlib.Omega.{arith}
use lib.Dec.{eqb}
use lib.ListN.{length}
use Rattle.words.specs.Word.{Word, spaces}

-- One letter before a word with n spaces: how many there are then, by whether the letter is a space.
abbrev counted : Bool → ℕ → ℕ
counted b n = elim b [ true ↦ suc n | false ↦ n ]

-- Two words joined have the spaces of both.
pub spaces_append : (u v : Word) → spaces (u ++ v) ≡ spaces u + spaces v
unfolding spaces
spaces_append [] v = omega arith
spaces_append (x ∷ u) v = go (eqb x 0x20) (spaces_append u v)
  where
    go : (b : Bool) → spaces (u ++ v) ≡ spaces u + spaces v → counted b (spaces (u ++ v)) ≡ counted b (spaces u) + spaces v
    go true h = omega arith
    go false h = h

-- A word has at most as many spaces as letters.
pub spaces_length : (w : Word) → spaces w ≤ length w
unfolding spaces
spaces_length [] = omega arith
spaces_length (x ∷ w) = go (eqb x 0x20) (spaces_length w)
  where
    go : (b : Bool) → spaces w ≤ length w → counted b (spaces w) ≤ length (x ∷ w)
    go true h = omega arith
    go false h = omega arith
