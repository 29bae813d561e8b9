-- What the writing pass by a plan answers. Definitions only.
use Rattle.std.specs.Prelude.{◌≡◌, List, ℕ, ◌+◌, ◌<◌, ◌≤◌, length, take}
use Rattle.std.proofs.Math.Option.{some}
use Rattle.words.specs.Word.{Word}
use Rattle.machine.specs.Machine.{Tree, Table, word}
use Rattle.trees.specs.Preorder.{preorder, Levels}
use Rattle.trees.specs.Shape.{tree_most}
use Rattle.layout.specs.Layout.{frames_size}
use Rattle.walk.specs.Plan.{Planned}
use Rattle.word_writer.specs.declared.Written.{Written}

-- The tree t stands at `at`, planned from state q on; w is its word, and has room.
pub record Due (F P : List ℕ) (at allowed room : ℕ) (M : Table) (q : ℕ) (t : Tree) (w : Word) : Type 0 where
  pub bytes : length F ≡ frames_size
  pub planned : Planned F P M t q at
  pub levels : Levels t allowed
  pub inside : at + length (preorder t) ≤ tree_most
  pub word : word M q t ≡ some w
  pub fits : length w ≤ room

-- The word stands at the room's front; what lies behind it is the lender's to set right. The answer is the word's length and the place behind the tree.
pub record WordWritten (w : Word) (at n : ℕ) (R' : List ℕ) (r : Written) : Type 0 where
  pub letters : r.letters ≡ length w
  pub place : r.place ≡ at + n
  pub front : take (length w) R' ≡ w

-- Whatever the bytes are: no letter beyond the room, and no place beyond the plan.
pub record Tidy (R R' : List ℕ) (r : Written) : Type 0 where
  pub long : length R' ≡ length R
  pub letters : r.letters ≤ length R
  pub place : r.place ≤ tree_most

-- A child with its place at `next` and so many levels can be called for behind the word at spot p.
pub record GoesOn (lower next p : ℕ) : Type 0 where
  pub level : 0 < lower
  pub place : next < tree_most
  pub spot : p < frames_size

-- Whatever the bytes are: the place behind is behind its own, and past the plan's end nothing is written.
pub record EndsBehind (at : ℕ) (r : Written) : Type 0 where
  pub behind : at < tree_most → at < r.place
  pub past : tree_most ≤ at → (r.letters ≡ 0) × (r.place ≡ tree_most)
