-- What is told of tree bytes under a symbol list for records, whose last symbol is a. Definitions only.
use Rattle.std.specs.Prelude.{◌≡◌, List, map, ℕ, ◌-◌, length, get_or, take}
use Rattle.words.specs.Reply.{Reply, given, ◌then◌, mapped}
use Rattle.trees.specs.Shape.{read_tree}
use Rattle.records.specs.Records.{unspell}
use Rattle.records.specs.Counter.{check_stream}
use Rattle.records.specs.Back.{back}

-- That they are a record's image; or 6, 7, 8, 10, 11 or 24.
unfoldable pub image_told : List ℕ → ℕ → List ℕ → Reply (Unit {0})
image_told ar a bs = mapped (λ r. tt) (read_tree ar bs then back a)

-- All bytes but the last.
abbrev pub all_but_last : List ℕ → List ℕ
all_but_last bs = take (length bs - 1) bs

-- All bytes but the last are a record's stream, with the last symbol for each ff, and the last one is that symbol.
pub record ImageBytes (a : ℕ) (bs : List ℕ) : Type 0 where
  pub stream : check_stream a a (all_but_last bs) ≡ given tt
  pub last : get_or bs (length bs - 1) 0 ≡ a

-- The stream of which they are the image, if they are one.
abbrev pub stream_of : ℕ → List ℕ → List ℕ
stream_of a bs = map (unspell a) (all_but_last bs)
