-- What the walk down a tree answers. Definitions only.
use Rattle.std.specs.Prelude.{◌≡◌, List, ◌++◌, ℕ, ◌<◌, ◌≤◌, drop, Result, Ok, Err, IfOk}
use Rattle.std.proofs.Math.Option.{Option, none, some}
use Rattle.words.specs.Reply.{given}
use Rattle.machine.specs.Machine.{Tree, Table, word}
use Rattle.machine.specs.Ranks.{Ranked}
use Rattle.trees.specs.Preorder.{preorder, Levels}
use Rattle.trees.specs.Shape.{read_tree}
use Rattle.layout.specs.Layout.{Opened}
use Rattle.walk.specs.declared.Lack.{Lack}

-- State q of the table M has no word on the tree that the bytes S are, whatever tree that is by the definition.
abbrev pub Wordless : Table → List ℕ → ℕ → Type 0
Wordless M S q = (t : Tree) → read_tree M.arities S ≡ given t → word M q t ≡ none

-- The tree t stands at `at` in the bytes S, ranked over the symbols of the table M that F and I mean, with at most so many levels.
pub record TreeStands (F I S : List ℕ) (at allowed : ℕ) (M : Table) (t : Tree) : Type 0 where
  pub opened : Opened F I M
  pub ranked : Ranked M.arities t
  pub levels : Levels t allowed
  pub behind : List ℕ
  pub bytes : drop at S ≡ preorder t ++ behind

-- The answer for the first position without a rule of a tree that ends at a place: that place, if there is none.
abbrev pub walked : Option ℕ → ℕ → Result ℕ Lack
walked none end = Ok end
walked (some p) end = Err (record { place = p })

-- Whatever the bytes are: a walk that ends has gone on from `at`, and not beyond the bytes.
abbrev pub Onward : ℕ → ℕ → Result ℕ Lack → Type 0
Onward at len r = IfOk r (λ next. (at < next) × (next ≤ len))
