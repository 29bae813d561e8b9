-- Trimmed and earliest tables (document 001, definition 2). L(q) is infinite in general; these definitions speak of all its words.
-- Definitions only.
use Rattle.std.specs.Prelude.{◌≡◌, ℕ, ◌<◌}
use mathlib.Core.List.{List, ◌∷◌, Memᴰ}
use Rattle.std.proofs.Math.Option.{Option, some}
use Rattle.std.proofs.Math.ListN.{get_elem?}
use Rattle.words.specs.Word.{Word, ◌⊕◌, Holds, NoPrefix, NoSuffix}
use Rattle.machine.specs.Machine.{Tree, Forest, Child, Rule, Row, Table, find, word, words, Each}

-- L(q): the set of all words of q over all finite trees, with no limit of size or depth. `Holds (L M q) w` says that w is in it.
abbrev pub L : Table → ℕ → Tree → Option Word
L M q t = word M q t

-- L(qi) ui .. L(qk) uk, the words of the rest qi ui .. qk uk of a rule over all finite trees.
abbrev pub tails : Table → List Child → Forest → Option Word
tails M cs ts = words M ts cs

-- A state is reached from the initial state through rules.
pub data Reached (M : Table) : ℕ → Type 0 where
  initial : {p : ℕ} → M.start ≡ p → Reached M p
  below : {p q : ℕ} {r : Rule} {c : Child} (f : ℕ) → Reached M q → find M.rows q f ≡ some r → Memᴰ c r.rest → c.state ≡ p → Reached M p

-- L(q) has a word.
abbrev pub HasWord : Table → ℕ → Type 0
HasWord M q = (w : Word) × Holds (L M q) w

-- Trimmed: each state is reached from the initial state through rules, and each L(q) has a word.
pub record Trimmed (M : Table) : Type 0 where
  pub reached : (q : ℕ) → q < M.states → Reached M q
  pub lives : (q : ℕ) → q < M.states → HasWord M q

-- E1: for each state the longest common prefix of L(q) is empty, and so is the longest common suffix.
pub record E1 (M : Table) : Type 0 where
  pub prefix : (q : ℕ) → q < M.states → NoPrefix (L M q)
  pub suffix : (q : ℕ) → q < M.states → NoSuffix (L M q)

-- E2 for the initial rule: the longest common prefix of L(q) u1 is empty.
abbrev pub LeftStart : Table → Type 0
LeftStart M = NoPrefix (λ t. L M M.start t ⊕ some M.after)

-- E2 for one rule: for each i from 1 to k the longest common prefix of L(qi) ui .. L(qk) uk is empty.
abbrev pub LeftRule : Table → Rule → Type 0
LeftRule M r = Each (λ c cs. NoPrefix (tails M (c ∷ cs))) r.rest

-- E2: for the initial rule, and for each rule.
pub record E2 (M : Table) : Type 0 where
  pub start : LeftStart M
  pub rules : (i : ℕ) (r : Row) → get_elem? M.rows i ≡ some r → LeftRule M r.rule

-- Earliest: trimmed, with E1 and E2.
pub record Earliest (M : Table) : Type 0 where
  pub trimmed : Trimmed M
  pub e1 : E1 M
  pub e2 : E2 M
