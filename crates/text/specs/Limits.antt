-- The numbers of the specification, "Table text": the most of each. Definitions only.
use Rattle.std.specs.Prelude.{ℕ}

-- Bytes of a text.
abbrev pub text_most : ℕ
text_most = 32768

-- Symbols of a table.
abbrev pub symbols_most : ℕ
symbols_most = 64

-- The arity of a symbol.
abbrev pub arity_most : ℕ
arity_most = 4

-- States of a table.
abbrev pub states_most : ℕ
states_most = 64

-- Letters of a word in a table.
abbrev pub letters_most : ℕ
letters_most = 32

-- Rules of a table.
abbrev pub rows_most : ℕ
rows_most = 512
