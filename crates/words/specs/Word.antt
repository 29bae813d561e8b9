-- Words, sets of words and their common prefixes and suffixes; terms. Definitions only.
use Rattle.std.specs.Prelude.{◌≡◌, List, [], ◌∷◌, ◌++◌, true, false, ℕ, suc, eqb}
use Rattle.std.proofs.Math.Option.{Option, none, some}

-- A word is a list of letters; a letter is a byte.
abbrev pub Word : Type 0
Word = List ℕ

-- Two words joined, none if either is missing.
infixr 65 ◌⊕◌
abbrev pub ◌⊕◌ : Option Word → Option Word → Option Word
none ⊕ o = none
some u ⊕ none = none
some u ⊕ some v = some (u ++ v)

-- A set of words is what a partial function gives: w is in the set if some i has the word w. The set may be infinite.
abbrev pub Holds : {I : Type 0} → (I → Option Word) → Word → Type 0
Holds {I} X w = (i : I) × (X i ≡ some w)

-- The longest common prefix of the set is empty: every word that is a prefix of each word of the set is empty.
abbrev pub NoPrefix : {I : Type 0} → (I → Option Word) → Type 0
NoPrefix X = (p : Word) → ((w : Word) → Holds X w → (s : Word) × (w ≡ p ++ s)) → p ≡ []

-- The longest common suffix of the set is empty: every word that is a suffix of each word of the set is empty.
abbrev pub NoSuffix : {I : Type 0} → (I → Option Word) → Type 0
NoSuffix X = (s : Word) → ((w : Word) → Holds X w → (p : Word) × (w ≡ p ++ s)) → s ≡ []

-- The number of letters 20 (hexadecimal, the space) of a word.
unfoldable pub spaces : Word → ℕ
spaces [] = 0
spaces (x ∷ w) = elim (eqb x 0x20) [ true ↦ suc (spaces w) | false ↦ spaces w ]

-- Terms are split by letter 20; their number is the number of letters 20 plus one.
unfoldable pub terms : Word → ℕ
terms w = suc (spaces w)
