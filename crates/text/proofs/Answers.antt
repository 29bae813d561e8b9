-- Texts worked out in the characters of the specification: its digits, a table that is read and written, and refusals on both sides of each line.
-- The longest text is in Reading: text_most_lem, text_over.
use mathlib.Core.Path.{◌≡◌, refl}
use mathlib.Core.Bool.{true, false}
use mathlib.Core.List.{List, [], ◌∷◌, ◌++◌, map}
use mathlib.Core.Option.{Option, none, some}
use Prim.Native.Nat.{ℕ, zero, suc}
use Prim.Native.String.{String}
use lib.Dec.{eqb}
use lib.ListN.{replicate}
use Rattle.words.specs.Reply.{given, refused}
use Rattle.machine.specs.Machine.{Table}
use Rattle.machine.proofs.Small.{row, to}
use Rattle.text.specs.Characters.{characters, lines}
use Rattle.text.specs.Lines.{digit, bytes_of, lines_of, digit_of, hex_of, line_of}
use Rattle.text.specs.Fields.{within, below, letters, text, children}
use Rattle.text.specs.Frames.{rules, wrong, symbol_frame, start_frame, rule_frame, step}
use Rattle.text.specs.Reading.{read_lines, read_table}
use Rattle.text.specs.Writing.{write_table, symbol_lines, row_lines, initial_frame, row_frame, children_text}

-- ---- digits

-- The digits by rising value.
abbrev digits : List ℕ
digits = characters "0123456789abcdef" []

-- The place of a number in a list, counted from n on.
abbrev place_from : ℕ → List ℕ → ℕ → Option ℕ
place_from n [] c = none
place_from n (d ∷ ds) c = elim (eqb d c) [ true ↦ some n | false ↦ place_from (suc n) ds c ]

-- The k numbers from n on.
abbrev numbers_from : ℕ → ℕ → List ℕ
numbers_from n zero = []
numbers_from n (suc k) = n ∷ numbers_from (suc n) k

-- The value of a digit is its place among them, and no other byte has one.
pub digits_read : map digit (numbers_from 0 256) ≡ map (place_from 0 digits) (numbers_from 0 256)
unfolding digit characters
digits_read = refl

-- Each value is written as the digit at its place.
pub digits_written : map digit_of (numbers_from 0 16) ≡ digits
unfolding digit_of characters
digits_written = refl

-- ---- a table

-- Its text: every field has another value than its neighbours.
abbrev sample_text : List ℕ
sample_text = lines ("0102" ∷ "0100" ∷ "0202026162010163" ∷ "0300010164" ∷ "03010001650002ff670100" ∷ "04" ∷ [])

abbrev sample : Table
sample =
    record {
      arities = 2 ∷ 0 ∷ [];
      states = 2;
      before = 0x61 ∷ 0x62 ∷ [];
      start = 1;
      after = 0x63 ∷ [];
      rows = row 0 1 (0x64 ∷ []) [] ∷ row 1 0 (0x65 ∷ []) (to 0 (0xff ∷ 0x67 ∷ []) ∷ to 1 [] ∷ []) ∷ [];
    }

-- The text is read as the table.
pub sample_read : read_table sample_text ≡ given sample
unfolding read_table read_lines lines_of bytes_of digit step symbol_frame start_frame rule_frame within below letters text children characters lines
sample_read = refl

-- The table is written as the text.
pub sample_written : write_table sample ≡ sample_text
unfolding write_table symbol_lines row_lines initial_frame row_frame children_text line_of hex_of digit_of characters lines
sample_written = refl

-- ---- refusals

-- Lines, with the number and the place of their refusal. Where all lines are taken that is 3 at the text's length, for the end frame is lacking.
abbrev Refusal : Type 0
Refusal = List String × ℕ × ℕ

-- The reader answers what is stated.
abbrev RefusedSo : List Refusal → Type 0
RefusedSo cs = map (λ c. read_table (lines c.0)) cs ≡ map (λ c. refused c.1 c.2) cs

-- Number 1: an empty text. Number 2: an empty line, an odd number of digits, another character; it comes before the line's kind.
abbrev bad_lines : List Refusal
bad_lines =
    ([], 1, 0)
    ∷ ("" ∷ [], 2, 0)
    ∷ ("010" ∷ [], 2, 0)
    ∷ ("010A" ∷ [], 2, 0)
    ∷ ("05g0" ∷ [], 2, 0)
    ∷ ("0100" ∷ "" ∷ [], 2, 5)
    ∷ []

-- Number 3: a kind that is unknown or not due, and the end that is lacking.
abbrev bad_kinds : List Refusal
bad_kinds =
    ("00" ∷ [], 3, 0)
    ∷ ("0201000000" ∷ [], 3, 0)
    ∷ ("0100" ∷ [], 3, 5)
    ∷ ("0100" ∷ "03000000" ∷ [], 3, 5)
    ∷ ("0100" ∷ "0201000000" ∷ [], 3, 16)
    ∷ ("0100" ∷ "0201000000" ∷ "0100" ∷ [], 3, 16)
    ∷ ("0100" ∷ "0201000000" ∷ "0201000000" ∷ [], 3, 16)
    ∷ ("0100" ∷ "0201000000" ∷ "05" ∷ [], 3, 16)
    ∷ ("0100" ∷ "0201000000" ∷ "04" ∷ "04" ∷ [], 3, 19)
    ∷ []

-- Two symbols and three states, and then lines.
abbrev two : List String → List String
two ls = "0100" ∷ "0101" ∷ "0203000000" ∷ ls

-- Number 3: a rule that doesn't rise by state and then symbol over the last one; it comes right after the symbol.
abbrev bad_rules : List Refusal
bad_rules =
    (two ("03000000" ∷ "03000000" ∷ []), 3, 30)
    ∷ (two ("030001000000" ∷ "03010000" ∷ []), 3, 43)
    ∷ (two ("03010000" ∷ "03000100" ∷ []), 3, 30)
    ∷ (two ("03000000" ∷ "03020000" ∷ "03010000" ∷ []), 3, 39)
    ∷ (two ("03000000" ∷ "030000" ∷ []), 3, 30)
    ∷ (two ("03010000" ∷ "030002" ∷ []), 4, 30)
    ∷ []

-- Number 4: arity 4 and 5; states 0, 64 and 65; a word of 32 letters and of 33; the initial state; a rule's state, symbol and child state.
abbrev bad_numbers : List Refusal
bad_numbers =
    ("0104" ∷ [], 3, 5)
    ∷ ("0105" ∷ [], 4, 0)
    ∷ ("0100" ∷ "0200" ∷ [], 4, 5)
    ∷ ("0100" ∷ "0240003f00" ∷ [], 3, 16)
    ∷ ("0100" ∷ "0241" ∷ [], 4, 5)
    ∷ ("0100" ∷ "02012061616161616161616161616161616161616161616161616161616161616161610000" ∷ [], 3, 80)
    ∷ ("0100" ∷ "020121" ∷ [], 4, 5)
    ∷ ("0100" ∷ "02400040" ∷ [], 4, 5)
    ∷ (two ("0303" ∷ []), 4, 21)
    ∷ (two ("030202" ∷ []), 4, 21)
    ∷ (two ("0300010003" ∷ []), 4, 21)
    ∷ []

-- Number 5: a byte that is lacking in each field, or left over in each frame.
abbrev bad_sizes : List Refusal
bad_sizes =
    ("01" ∷ [], 5, 0)
    ∷ ("010000" ∷ [], 5, 0)
    ∷ ("0100" ∷ "02" ∷ [], 5, 5)
    ∷ ("0100" ∷ "0201" ∷ [], 5, 5)
    ∷ ("0100" ∷ "020100" ∷ [], 5, 5)
    ∷ ("0100" ∷ "02010000" ∷ [], 5, 5)
    ∷ ("0100" ∷ "020100000261" ∷ [], 5, 5)
    ∷ ("0100" ∷ "020100000000" ∷ [], 5, 5)
    ∷ (two ("03" ∷ []), 5, 21)
    ∷ (two ("0300" ∷ []), 5, 21)
    ∷ (two ("030000" ∷ []), 5, 21)
    ∷ (two ("0300000000" ∷ []), 5, 21)
    ∷ (two ("03000100" ∷ []), 5, 21)
    ∷ (two ("0300010000" ∷ []), 5, 21)
    ∷ (two ("0400" ∷ []), 5, 21)
    ∷ []

-- Number 4: symbols 64 and 65.
abbrev bad_symbols : List Refusal
bad_symbols = (replicate 64 "0100", 3, 320) ∷ (replicate 64 "0100" ++ "01" ∷ [], 4, 320) ∷ []

-- Each of them is refused as stated.
pub refusals : RefusedSo bad_lines × RefusedSo bad_kinds × RefusedSo bad_rules × RefusedSo bad_numbers × RefusedSo bad_sizes × RefusedSo bad_symbols
unfolding read_table read_lines lines_of bytes_of digit step symbol_frame start_frame rule_frame within below letters text children characters lines
refusals = (refl, refl, refl, refl, refl, refl)

-- Number 2: no closing 0a.
pub feed_lacking : read_table (characters "0100\n04" []) ≡ refused 2 5
unfolding read_table read_lines lines_of bytes_of digit step symbol_frame within characters
feed_lacking = refl

-- A table with n rules, as far as they are counted.
abbrev many : ℕ → Table
many n = record { arities = 0 ∷ []; states = 1; before = []; start = 0; after = []; rows = replicate n (row 0 0 [] []) }

-- Number 4: a 513th rule, and not a 512th, whatever stands in its frame.
pub rule_513 : (step (rules (many 511)) (3 ∷ []) ≡ wrong 5) × (step (rules (many 512)) (3 ∷ []) ≡ wrong 4)
unfolding step rule_frame below
rule_513 = (refl, refl)
