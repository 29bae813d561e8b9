-- Summaries as they are kept for each state. Definitions only.
use Rattle.std.specs.Prelude.{◌≡◌, true, false, List, map, ℕ, zero, suc, ◌%◌, ltb, get_or}
use Rattle.words.specs.Word.{Word}
use Rattle.end_laws.specs.Ends.{left, right, nothing, one, several, Ends, stuck}
use Rattle.end_laws.specs.Ends as ends
use Rattle.summary.specs.declared.Side.{Side}
use Rattle.summary.specs.declared.Side.TheVariants.{Left, Right}
use Rattle.summary.specs.declared.Letters.{Letters}
use Rattle.summary.specs.declared.Letters.TheVariants.{Nothing, One, Several}
use Rattle.summary.specs.declared.Summary.{Summary}

-- The side that the code names.
abbrev pub side_of : Side → ends.Side
side_of Left = left
side_of Right = right

-- The letters that the code names.
abbrev pub letters_of : Letters → ends.Letters
letters_of Nothing = nothing
letters_of (One a) = one a
letters_of Several = several

-- The letters that a number tells: 0 for none, the letter and one more for one, from 257 on for several.
unfoldable pub letters_told : ℕ → ends.Letters
letters_told zero = nothing
letters_told (suc a) = elim (ltb a 256) [ true ↦ one a | false ↦ several ]

-- The summary that a number tells: from 1024 on with the empty word, and below that its letters. So 0 tells that no word is known.
abbrev pub summary_told : ℕ → Ends
summary_told n = record { empty = ltb 1023 n; letters = letters_told (n % 1024) }

-- The summary that the code names.
abbrev pub decode : Summary → Ends
decode x = summary_told x.code

-- No word is known.
abbrev pub untold : Summary
untold = record { code = 0 }

-- The empty word alone.
abbrev pub only_empty : Summary
only_empty = record { code = 1024 }

-- The summaries of the states in turn.
abbrev pub summaries : List Summary → List Ends
summaries xs = map decode xs

-- The summaries of the states by their numbers: of a state that has no place no word is known.
abbrev pub K : List Summary → ℕ → Ends
K xs q = decode (get_or xs q untold)

-- No word can be pushed to the left of a state with this summary.
abbrev pub Firm : Ends → Type 0
Firm x = (w : Word) → stuck x w ≡ false
