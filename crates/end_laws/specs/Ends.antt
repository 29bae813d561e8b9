-- The ends of words at a side: the summary of a set of words, and how a rule's summary follows from those of its states.
-- Definitions only.
use Rattle.std.specs.Prelude.{Bool, true, false, not, ◌&&◌, ◌||◌, List, [], ◌∷◌, reverse, ℕ, zero, suc, ◌+◌, eqb, length, get_or}
use Rattle.std.proofs.Math.Option.{Option, none, some}
use Rattle.words.specs.Word.{Word}
use Rattle.machine.specs.Machine.{Child, Rule}

-- The side from which words are looked at: first letters at the left, last letters at the right.
pub data Side : Type 0 where
  left right : Side

-- A word as it is read from a side.
abbrev pub orient : Side → Word → Word
orient left w = w
orient right w = reverse w

-- The first letter of a word, none if it is empty.
abbrev pub first : Word → Option ℕ
first [] = none
first (a ∷ w) = some a

-- The end of a word at a side: its first letter from there, none if it is empty.
abbrev pub end : Side → Word → Option ℕ
end side w = first (orient side w)

-- The letters at the ends of a set of words: none, one and which, or several.
pub data Letters : Type 0 where
  nothing : Letters
  one : ℕ → Letters
  several : Letters

-- The summary of a set of words at one side: is the empty word in it, and which letters are at the ends of its words.
pub record Ends : Type 0 where
  pub empty : Bool
  pub letters : Letters

-- No word is known.
abbrev pub unknown : Ends
unknown = record { empty = false; letters = nothing }

-- The summary of the set with the empty word alone.
abbrev pub blank : Ends
blank = record { empty = true; letters = nothing }

-- The summary of a set with one word, by the word's end.
abbrev pub alone : Option ℕ → Ends
alone none = blank
alone (some a) = record { empty = false; letters = one a }

-- The letters of a union.
abbrev pub both : Letters → Letters → Letters
both nothing m = m
both (one a) nothing = one a
both (one a) (one b) = elim (eqb a b) [ true ↦ one a | false ↦ several ]
both (one a) several = several
both several m = several

-- The summary of a union.
abbrev pub join : Ends → Ends → Ends
join x y = record { empty = x.empty || y.empty; letters = both x.letters y.letters }

-- Some letter is known.
abbrev pub lettered : Letters → Bool
lettered nothing = false
lettered (one a) = true
lettered several = true

-- Some word is known.
abbrev pub lives : Ends → Bool
lives x = x.empty || lettered x.letters

-- The letters of words x y: those of x, and where x can be empty those of y too.
abbrev pub through : Bool → Letters → Letters → Letters
through true l m = both l m
through false l m = l

-- The summary of all words x y, seen from the side of x: no word is known if none is known of x or of y.
abbrev pub before : Ends → Ends → Ends
before x y =
    elim (lives x && lives y) [ true ↦ record { empty = x.empty && y.empty; letters = through x.empty x.letters y.letters } | false ↦ unknown ]

-- The summary of all words x y, where x stands left of y.
abbrev pub beside : Side → Ends → Ends → Ends
beside left x y = before x y
beside right x y = before y x

-- The summary of the words of the rest qi ui .. qk uk of a rule, where the states have the summaries K.
unfoldable pub along : Side → (ℕ → Ends) → List Child → Ends
along side K [] = blank
along side K (c ∷ cs) = beside side (K c.state) (beside side (alone (end side c.after)) (along side K cs))

-- The summary of the words of a rule, where the states have the summaries K.
abbrev pub value : Side → (ℕ → Ends) → Rule → Ends
value side K r = beside side (alone (end side r.first)) (along side K r.rest)

-- There are several letters.
abbrev pub various : Letters → Bool
various nothing = false
various (one a) = false
various several = true

-- The words share no letter at the side: the empty word is among them, or there are several letters.
abbrev pub clean : Ends → Bool
clean x = x.empty || various x.letters

-- Letters that are none but b.
abbrev pub only : Letters → ℕ → Bool
only nothing b = true
only (one a) b = eqb a b
only several b = false

-- The word behind a state can be pushed to its left: the state has the empty word, the word is not empty,
-- and the state has no first letter but the word's own.
abbrev pub stuck : Ends → Word → Bool
stuck x [] = false
stuck x (b ∷ u) = x.empty && only x.letters b

-- No word behind a state of the rest of a rule can be pushed to its left.
abbrev pub free : (ℕ → Ends) → List Child → Bool
free K [] = true
free K (c ∷ cs) = not (stuck (K c.state) c.after) && free K cs

-- How much is known of the letters.
abbrev pub rank_of : Letters → ℕ
rank_of nothing = 0
rank_of (one a) = 1
rank_of several = 2

-- How much is known: a summary can rise three times.
abbrev pub rank : Ends → ℕ
rank x = elim x.empty [ true ↦ suc (rank_of x.letters) | false ↦ rank_of x.letters ]

-- How much is known of the states below n together.
unfoldable pub total : ℕ → (ℕ → Ends) → ℕ
total zero K = 0
total (suc n) K = rank (K 0) + total n (λ q. K (suc q))

-- The summaries of states in a list, by the states' numbers.
abbrev pub at : List Ends → ℕ → Ends
at vs q = get_or vs q unknown

-- How much is known of the states of a list together.
abbrev pub ranks : List Ends → ℕ
ranks vs = total (length vs) (at vs)
