-- The plan of a tree: for each position the rule that writes there. Definitions only.
use Rattle.std.specs.Prelude.{◌≡◌, List, [], ◌∷◌, ℕ, suc, ◌+◌, ◌/◌, ◌%◌, ◌≤◌, length, get_or}
use Rattle.std.proofs.Math.Option.{some}
use Rattle.words.specs.Word.{Word}
use Rattle.machine.specs.Machine.{Tree, Forest, node, ∅, ◌▸◌, Child, Rule, Table, find, word}
use Rattle.machine.specs.Ranks.{Ranked}
use Rattle.trees.specs.Preorder.{preorder, Levels}
use Rattle.trees.specs.Shape.{tree_most, depth_most}
use Rattle.layout.specs.Leaves.{Spot}

-- From this unit on a plan's number tells how many children a rule has, and below it the spot of its first word.
abbrev pub plan_unit : ℕ
plan_unit = 131072

-- The plan's number at a position names rule r: the spot of its first word, and how many children it has.
pub record Names (F : List ℕ) (x : ℕ) (r : Rule) : Type 0 where
  pub there : Spot F r.first r.rest (x % plan_unit)
  pub kids : x / plan_unit ≡ length r.rest

-- The plan P names, for each symbol of the tree at `at`, the rule of the state that comes to it, from state q at the root on.
unfoldable mutual
  pub Planned : List ℕ → List ℕ → Table → Tree → ℕ → ℕ → Type 0
  Planned F P M (node f ts) q at = (r : Rule) × (find M.rows q f ≡ some r) × Names F (get_or P at 0) r × Planneds F P M ts r.rest (suc at)

  pub Planneds : List ℕ → List ℕ → Table → Forest → List Child → ℕ → Type 0
  Planneds F P M ∅ [] at = Unit {0}
  Planneds F P M ∅ (c ∷ cs) at = ⊥
  Planneds F P M (t ▸ ts) [] at = ⊥
  Planneds F P M (t ▸ ts) (c ∷ cs) at = Planned F P M t c.state at × Planneds F P M ts cs (at + length (preorder t))

-- The bytes S are a tree of at most 32,768 symbols and 64 levels over M's symbols, state q has a word on it with so many letters, and the plan P names
-- its rules.
pub record Counted (F S P : List ℕ) (M : Table) (q letters : ℕ) : Type 0 where
  pub tree : Tree
  pub bytes : S ≡ preorder tree
  pub size : length S ≤ tree_most
  pub ranked : Ranked M.arities tree
  pub levels : Levels tree depth_most
  pub letters_of : Word
  pub is : word M q tree ≡ some letters_of
  pub many : letters ≡ length letters_of
  pub planned : Planned F P M tree q 0
