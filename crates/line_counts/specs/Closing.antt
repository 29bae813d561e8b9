-- The line that says what became of all lines. Definitions only.
use Rattle.std.specs.Prelude.{List, [], ◌∷◌, ◌++◌, ℕ, zero, suc}
use Rattle.output.specs.Decimal.{decimal}

-- How many lines were refused by a number, where there are any.
unfoldable pub refused_text : ℕ → ℕ → List ℕ
refused_text n zero = []
refused_text n (suc k) = 0x2c ∷ 0x20 ∷ 0x6e ∷ 0x6f ∷ 0x20 ∷ [] ++ decimal n ++ 0x3a ∷ 0x20 ∷ [] ++ decimal (suc k)

-- The same for each number behind n.
unfoldable pub refused_from : ℕ → List ℕ → List ℕ
refused_from n [] = []
refused_from n (k ∷ ks) = refused_text (suc n) k ++ refused_from (suc n) ks

-- The same for each number from 1 on.
abbrev pub refused_texts : List ℕ → List ℕ
refused_texts ks = refused_from 0 ks

-- How many lines were no hexadecimal, where there are any.
unfoldable pub strange_text : ℕ → List ℕ
strange_text zero = []
strange_text (suc k) = 0x2c ∷ 0x20 ∷ 0x6e ∷ 0x6f ∷ 0x74 ∷ 0x20 ∷ 0x68 ∷ 0x65 ∷ 0x78 ∷ 0x3a ∷ 0x20 ∷ [] ++ decimal (suc k)

-- What became of all lines: "LINES lines: ANSWERED NAME", the refusals, the lines that were no hexadecimal, and a line feed.
abbrev pub counts_line : ℕ → List ℕ → ℕ → List ℕ → ℕ → List ℕ
counts_line lines name answered refused strange =
    decimal lines
    ++ 0x20 ∷ 0x6c ∷ 0x69 ∷ 0x6e ∷ 0x65 ∷ 0x73 ∷ 0x3a ∷ 0x20 ∷ []
    ++ decimal answered
    ++ 0x20 ∷ []
    ++ name
    ++ refused_texts refused
    ++ strange_text strange
    ++ 0x0a ∷ []
