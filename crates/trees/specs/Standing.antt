-- The state and the symbol of each position of a tree, by the way from the root; the first position without a rule: number 9. Definitions only.
use Rattle.std.specs.Prelude.{◌≡◌, List, ◌∷◌, ℕ, suc, ◌+◌, ◌<◌, length}
use Rattle.std.proofs.Math.Option.{none, some}
use Rattle.machine.specs.Machine.{Tree, Forest, node, ◌▸◌, Child, Rule, Table, find}
use Rattle.trees.specs.Preorder.{preorder}

mutual
  -- Position p in preorder, from 0, of tree t is come to in state s and has symbol f, where the root is come to in state q.
  pub data Stands (M : Table) (s f : ℕ) : ℕ → Tree → ℕ → Type 0 where
    -- the root
    here : {q p : ℕ} {t : Tree} (ts : Forest) → t ≡ node f ts → q ≡ s → p ≡ 0 → Stands M s f q t p
    -- a position of the trees below the root, to which the rule for q and the root's symbol leads
    below : {q p : ℕ} {t : Tree} (g : ℕ) (ts : Forest) (r : Rule) (i : ℕ) → t ≡ node g ts → find M.rows q g ≡ some r
        → StandsIn M s f r.rest ts i → p ≡ suc i → Stands M s f q t p

  -- The same of a position of trees one after the other, where the root of each is come to in the state of the rule's child of the same index.
  pub data StandsIn (M : Table) (s f : ℕ) : List Child → Forest → ℕ → Type 0 where
    first : {cs : List Child} {ts : Forest} {p : ℕ} (c : Child) (more : List Child) (t : Tree) (others : Forest)
        → cs ≡ c ∷ more → ts ≡ t ▸ others → Stands M s f c.state t p → StandsIn M s f cs ts p
    later : {cs : List Child} {ts : Forest} {p : ℕ} (c : Child) (more : List Child) (t : Tree) (others : Forest) (i : ℕ)
        → cs ≡ c ∷ more → ts ≡ t ▸ others → StandsIn M s f more others i → p ≡ length (preorder t) + i → StandsIn M s f cs ts p

-- A position with a state, a symbol, and a rule for them.
pub record Ruled (M : Table) (at : ℕ → ℕ → Type 0) : Type 0 where
  pub state : ℕ
  pub symbol : ℕ
  pub stands : at state symbol
  pub rule : Rule
  pub found : find M.rows state symbol ≡ some rule

-- A position with a state and a symbol, and no rule for them.
pub record Unruled (M : Table) (at : ℕ → ℕ → Type 0) : Type 0 where
  pub state : ℕ
  pub symbol : ℕ
  pub stands : at state symbol
  pub lacking : find M.rows state symbol ≡ none

-- p is the first position without a rule, where the root is come to in state q: it lacks one, and each position before it has one.
pub record FirstLacking (M : Table) (q : ℕ) (t : Tree) (p : ℕ) : Type 0 where
  pub there : Unruled M (λ s f. Stands M s f q t p)
  pub before : (i : ℕ) → i < p → Ruled M (λ s f. Stands M s f q t i)
