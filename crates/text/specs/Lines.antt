-- Lines of lowercase hexadecimal, each closed by byte 0a. Definitions only.
use Rattle.std.specs.Prelude.{true, false, ◌&&◌, List, [], ◌∷◌, ◌++◌, ℕ, ◌+◌, ◌-◌, ◌*◌, ◌/◌, ◌%◌, eqb, leb, ltb}
use Rattle.std.proofs.Math.Option.{Option, none, some}

-- The value of a lowercase hexadecimal digit; none for any other character.
unfoldable pub digit : ℕ → Option ℕ
digit c =
    elim (leb 0x30 c && leb c 0x39) [
      | true ↦ some (c - 0x30)
      | false ↦
          elim (leb 0x61 c && leb c 0x66) [ true ↦ some (c - 0x61 + 10) | false ↦ none ]
    ]

-- The byte of two digits, before bytes.
abbrev pub joined : Option ℕ → Option ℕ → Option (List ℕ) → Option (List ℕ)
joined none l bs = none
joined (some h) none bs = none
joined (some h) (some l) none = none
joined (some h) (some l) (some bs) = some ((h * 16 + l) ∷ bs)

-- The bytes of a line: two digits a byte. None for an odd number of digits or another character.
unfoldable pub bytes_of : List ℕ → Option (List ℕ)
bytes_of [] = some []
bytes_of (h ∷ []) = none
bytes_of (h ∷ l ∷ cs) = joined (digit h) (digit l) (bytes_of cs)

-- The lines of a text, each without the 0a that closes it; last, what stands behind the last 0a.
pub data Lines : Type 0 where
  behind : List ℕ → Lines
  line : List ℕ → Lines → Lines

-- A character in front of the first line.
abbrev pub push : ℕ → Lines → Lines
push c (behind l) = behind (c ∷ l)
push c (line l ls) = line (c ∷ l) ls

-- The lines of a text.
unfoldable pub lines_of : List ℕ → Lines
lines_of [] = behind []
lines_of (c ∷ cs) = elim (eqb c 0x0a) [ true ↦ line [] (lines_of cs) | false ↦ push c (lines_of cs) ]

-- The lowercase hexadecimal digit of a value below 16.
unfoldable pub digit_of : ℕ → ℕ
digit_of v = elim (ltb v 10) [ true ↦ 0x30 + v | false ↦ 0x61 + (v - 10) ]

-- Bytes as hexadecimal digits.
unfoldable pub hex_of : List ℕ → List ℕ
hex_of [] = []
hex_of (b ∷ bs) = digit_of (b / 16) ∷ digit_of (b % 16) ∷ hex_of bs

-- A frame as a line.
unfoldable pub line_of : List ℕ → List ℕ
line_of frame = hex_of frame ++ 0x0a ∷ []
