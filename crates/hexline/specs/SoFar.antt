-- What is known of a line of hexadecimal of which some characters have come. Definitions only.
use Rattle.std.specs.Prelude.{◌≡◌, Bool, true, false, List, [], ◌∷◌, ◌++◌, ℕ, ◌+◌, ◌<◌, ◌≤◌, min, length, take, get_or, set, Option, Some, None}
use Rattle.std.proofs.Math.Option.{none, some}
use Rattle.text.specs.Lines.{digit, bytes_of}
use Rattle.hexline.specs.declared.SoFar.{SoFar}
use Rattle.hexline.specs.declared.End.TheVariants as end

-- The value of a digit, or none for any other character.
abbrev pub Value : ℕ → Option ℕ → Type 0
Value c (Some v) = (v < 16) × (digit c ≡ some v)
Value c None = digit c ≡ none

-- A byte stored behind the first n of the tree, where there is a place.
pub record ByteStored (b : ℕ) (T : List ℕ) (n : ℕ) (T' : List ℕ) (r : ℕ) : Type 0 where
  pub here : n < length T → (r ≡ n + 1) × (T' ≡ set T n b)
  pub full : length T ≤ n → (r ≡ n) × (T' ≡ T)

-- The first n bytes of the tree are the first of bs, as many as have a place.
pub record TreeBytes (bs T : List ℕ) (n : ℕ) : Type 0 where
  pub many : n ≡ min (length bs) (length T)
  pub front : take n T ≡ take n bs

-- Whether anything has come.
abbrev pub any_of : List ℕ → Bool
any_of [] = false
any_of (c ∷ cs) = true

-- The characters cs have come, and the line tells of them: they are whole bytes; or whole bytes and one digit that waits for its
-- fellow; or, whatever comes yet, no bytes.
pub data State (cs T : List ℕ) (l : SoFar) : Type 0 where
  whole : (bs : List ℕ) → l.end ≡ end.Whole → bytes_of cs ≡ some bs → TreeBytes bs T l.bytes → State cs T l
  waits : (front bs : List ℕ) (c h : ℕ) → l.end ≡ end.Digit h → h < 16 → cs ≡ front ++ c ∷ [] → digit c ≡ some h → bytes_of front ≡ some bs
      → TreeBytes bs T l.bytes → State cs T l
  strange : l.end ≡ end.Strange → ((more : List ℕ) → bytes_of (cs ++ more) ≡ none) → State cs T l

-- That state, and whether anything has come.
pub record LineHeld (cs T : List ℕ) (l : SoFar) : Type 0 where
  pub any : l.any ≡ any_of cs
  pub state : State cs T l

-- The characters are whole bytes in hexadecimal, and the first n bytes of the tree are these, as many as have a place.
abbrev pub WholeBytes : List ℕ → List ℕ → ℕ → Type 0
WholeBytes cs T n = (bs : List ℕ) × (bytes_of cs ≡ some bs) × TreeBytes bs T n

-- The first n characters of a piece have no line feed among them, and there the piece ends or a line feed stands.
pub record UpToFeed (piece : List ℕ) (n : ℕ) : Type 0 where
  pub inside : n ≤ length piece
  pub before : (k : ℕ) → k < n → get_or piece k 0 ≡ 0x0a → ⊥
  pub end : n < length piece → get_or piece n 0 ≡ 0x0a
