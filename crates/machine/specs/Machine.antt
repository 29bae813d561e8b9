-- The machine: trees, rules, tables, and the word of a state on a tree (document 001, definition 1). Definitions only.
use Rattle.std.specs.Prelude.{◌≡◌, true, false, ◌&&◌, List, [], ◌∷◌, ◌⊎◌, ℕ, ◌<◌, eqb, length, get_or}
use Rattle.std.proofs.Math.Option.{Option, none, some}
use Rattle.words.specs.Word.{Word, ◌⊕◌}

-- A tree is a symbol with the trees below it, of any size and depth.
infixr 67 ◌▸◌
mutual
  pub data Tree : Type 0 where
    node : ℕ → Forest → Tree

  pub data Forest : Type 0 where
    ∅ : Forest
    ◌▸◌ : Tree → Forest → Forest

-- A child's place in a rule: its state q, and the word u that follows it.
pub record Child : Type 0 where
  pub state : ℕ
  pub after : Word

-- A rule u0 q1 u1 .. qk uk: the word u0, and then a state and a word for each child.
pub record Rule : Type 0 where
  pub first : Word
  pub rest : List Child

-- A rule with the state and the symbol that it is for.
pub record Row : Type 0 where
  pub state : ℕ
  pub symbol : ℕ
  pub rule : Rule

-- A table: each symbol's arity, the number of states, the initial rule u0 q u1, and the rules.
pub record Table : Type 0 where
  pub arities : List ℕ
  pub states : ℕ
  pub before : Word
  pub start : ℕ
  pub after : Word
  pub rows : List Row

-- The rule for a state and a symbol, or none.
unfoldable pub find : List Row → ℕ → ℕ → Option Rule
find [] q f = none
find (r ∷ rs) q f = elim (eqb r.state q && eqb r.symbol f) [ true ↦ some r.rule | false ↦ find rs q f ]

-- What a rule writes, where `below` says what the rest q1 u1 .. qk uk of a rule writes.
abbrev pub apply : Option Rule → (List Child → Option Word) → Option Word
apply none below = none
apply (some r) below = some r.first ⊕ below r.rest

-- The word of state q on f(t1,..,tk) is u0, the word of q1 on t1, u1, and so on to uk; none if that rule or any word below is missing.
unfoldable mutual
  pub word : Table → ℕ → Tree → Option Word
  word M q (node f ts) = apply (find M.rows q f) (λ cs. words M ts cs)

  pub words : Table → Forest → List Child → Option Word
  words M ∅ [] = some []
  words M ∅ (c ∷ cs) = none
  words M (t ▸ ts) [] = none
  words M (t ▸ ts) (c ∷ cs) = word M c.state t ⊕ some c.after ⊕ words M ts cs

-- The table's word is that of the initial state, between u0 and u1 of the initial rule.
abbrev pub output : Table → Tree → Option Word
output M t = some M.before ⊕ word M M.start t ⊕ some M.after

-- P holds of each child of the rest of a rule, with the children right of it.
abbrev pub Each : (Child → List Child → Type 0) → List Child → Type 0
Each P [] = Unit {0}
Each P (c ∷ cs) = P c cs × Each P cs

-- P holds of each row.
abbrev pub Every : (Row → Type 0) → List Row → Type 0
Every P [] = Unit {0}
Every P (r ∷ rs) = P r × Every P rs

-- Row r stands before row s: by state and then symbol.
abbrev pub Before : Row → Row → Type 0
Before r s = (r.state < s.state) ⊎ ((r.state ≡ s.state) × (r.symbol < s.symbol))

-- The rows rise strictly by state and then symbol, so there is at most one rule for each state and symbol.
abbrev pub Rising : List Row → Type 0
Rising [] = Unit {0}
Rising (r ∷ []) = Unit {0}
Rising (r ∷ s ∷ rs) = Before r s × Rising (s ∷ rs)

-- A row's state, symbol and child states are the table's, and it has as many children as its symbol's arity.
pub record RowFits (M : Table) (r : Row) : Type 0 where
  pub state : r.state < M.states
  pub symbol : r.symbol < length M.arities
  pub arity : length r.rule.rest ≡ get_or M.arities r.symbol 0
  pub children : Each (λ c cs. c.state < M.states) r.rule.rest

-- What makes a table one: its initial state and rows fit it, and its rows rise.
pub record WellMade (M : Table) : Type 0 where
  pub start : M.start < M.states
  pub rows : Every (RowFits M) M.rows
  pub rising : Rising M.rows
