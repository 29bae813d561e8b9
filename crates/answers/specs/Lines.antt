-- The lines that the programs answer. Definitions only.
use Rattle.std.specs.Prelude.{List, [], ◌∷◌, ◌++◌, ℕ, length}
use Rattle.text.specs.Lines.{hex_of}
use Rattle.output.specs.Decimal.{decimal}

-- Numbers in decimal, each behind a blank.
unfoldable pub blanked : List ℕ → List ℕ
blanked [] = []
blanked (n ∷ ns) = 0x20 ∷ [] ++ decimal n ++ blanked ns

-- A refusal: "no", the numbers that tell it, and a line feed.
abbrev pub no_line : List ℕ → List ℕ
no_line ns = 0x6e ∷ 0x6f ∷ [] ++ blanked ns ++ 0x0a ∷ []

-- The letters of a word, behind a blank, where there are any.
unfoldable pub letters_text : List ℕ → List ℕ
letters_text [] = []
letters_text (x ∷ w) = 0x20 ∷ [] ++ hex_of (x ∷ w)

-- A word: "word ", its length, its terms, its letters, and a line feed.
abbrev pub word_line : ℕ → List ℕ → List ℕ
word_line terms w =
    0x77 ∷ 0x6f ∷ 0x72 ∷ 0x64 ∷ 0x20 ∷ [] ++ decimal (length w) ++ 0x20 ∷ [] ++ decimal terms ++ letters_text w ++ 0x0a ∷ []

-- Bytes: the name of what they are, a blank, their digits, and a line feed.
abbrev pub bytes_line : List ℕ → List ℕ → List ℕ
bytes_line name bs = name ++ 0x20 ∷ [] ++ hex_of bs ++ 0x0a ∷ []
