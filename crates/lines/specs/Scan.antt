-- One line at the front of a text, as the code takes it: two digits at a time. Definitions only.
use Rattle.std.specs.Prelude.{◌≡◌, Option as Maybe, Some, None, Bool, true, false, List, [], ◌∷◌, ◌++◌, ℕ, ◌+◌, ◌*◌, ◌<◌, ◌≤◌, eqb, length, get_or, take, drop}
use Rattle.std.proofs.Math.Option.{Option, none, some}
use Rattle.text.specs.Lines.{digit}
use Rattle.lines.specs.declared.Line.{Line}

-- A line's bytes and the text behind its 0a, or that it is no line of bytes.
pub data Scanned : Type 0 where
  whole : List ℕ → List ℕ → Scanned
  bad : Scanned

-- The byte of two digits, before the line's other bytes.
abbrev pub with_byte : Option ℕ → Option ℕ → Scanned → Scanned
with_byte none l s = bad
with_byte (some h) none s = bad
with_byte (some h) (some l) (whole bs t) = whole ((h * 16 + l) ∷ bs) t
with_byte (some h) (some l) bad = bad

-- The first where the test holds, and the other where it does not.
abbrev pub either : Bool → Scanned → Scanned → Scanned
either true s other = s
either false s other = other

-- The line at the front: it ends at its 0a; an odd number of digits, another character or no closing 0a make it bad.
unfoldable pub scan : List ℕ → Scanned
scan [] = bad
scan (c ∷ []) = either (eqb c 0x0a) (whole [] []) bad
scan (c ∷ d ∷ t) = either (eqb c 0x0a) (whole [] (d ∷ t)) (with_byte (digit c) (digit d) (scan t))

-- The value of a digit, 16 for any other character.
abbrev pub value_or16 : Option ℕ → ℕ
value_or16 (some v) = v
value_or16 none = 16

-- Each character's entry is its value.
pub record Valued (vs : List ℕ) : Type 0 where
  pub value : (c : ℕ) → c < 256 → get_or vs c 0 ≡ value_or16 (digit c)

-- A whole line from `at` on, put into the bytes F from `used` on: how many bytes, and where the next line starts.
pub record LinePut (T bs t : List ℕ) (at used n then : ℕ) (F F' : List ℕ) : Type 0 where
  pub bytes : n ≡ length bs
  pub next : then ≡ at + 2 * n + 1
  pub inside : then ≤ length T
  pub rest : drop then T ≡ t
  pub put : F' ≡ take used F ++ bs ++ drop (used + n) F

-- Where the line is bad, the bytes before `used` are as they were.
pub record FrontKept (used : ℕ) (F F' : List ℕ) : Type 0 where
  pub long : length F' ≡ length F
  pub front : take used F' ≡ take used F

-- Whether the line ends at i: its 0a stands there, and the line has n bytes; or it does not.
abbrev pub EndedAt : List ℕ → ℕ → ℕ → Maybe Line → Type 0
EndedAt T i n (Some l) = (l.bytes ≡ n) × (l.next ≡ i + 1) × (i < length T) × (get_or T i 0 ≡ 10)
EndedAt T i n None = i < length T → get_or T i 0 ≡ 10 → ⊥

-- What taking a line answers, and what it does to the bytes.
abbrev pub LineTaken : List ℕ → Scanned → ℕ → ℕ → List ℕ → List ℕ → Maybe Line → Type 0
LineTaken T (whole bs t) at used F F' (Some l) = LinePut T bs t at used l.bytes l.next F F'
LineTaken T (whole bs t) at used F F' None = ⊥
LineTaken T bad at used F F' (Some l) = ⊥
LineTaken T bad at used F F' None = FrontKept used F F'
