-- What the leaves answer, of the rules and of their words: every layer above reads an opened table through them. Definitions only.
use Rattle.std.specs.Prelude.{◌≡◌, ◌↔◌, List, [], ◌∷◌, ◌++◌, ℕ, zero, suc, ◌+◌, ◌<◌, ◌≤◌, length, get_or, take, drop}
use Rattle.std.proofs.Math.Option.{none, some}
use Rattle.std.proofs.Math.ListN.{get_elem?}
use Rattle.std.proofs.Math.Seq.{slice}
use Rattle.words.specs.Word.{Word}
use Rattle.machine.specs.Machine.{Child, Rule, Row, Table, Each, find}
use Rattle.machine.specs.Form.{rows_of}
use Rattle.text.specs.Limits.{states_most, letters_most, arity_most, rows_most}
use Rattle.text.specs.Writing.{text_of, children_text}
use Rattle.layout.specs.Layout.{frames_size, Opened, rule_text, entry_of}

-- The letters of the word whose length byte stands at a, clamped to the bytes that are there.
abbrev pub word_at : List ℕ → ℕ → Word
word_at F a = take (get_or F a 0) (drop (a + 1) F)

-- Where what follows that word stands.
abbrev pub behind_at : List ℕ → ℕ → ℕ
behind_at F a = a + 1 + get_or F a 0

-- A rule's bytes stand at p.
pub record RuleAt (F : List ℕ) (p : ℕ) (r : Rule) : Type 0 where
  pub behind : List ℕ
  pub bytes : drop p F ≡ rule_text r ++ behind

-- The row with number i.
abbrev pub RowAt : Table → ℕ → Row → Type 0
RowAt M i r = get_elem? M.rows i ≡ some r

-- P holds of row number i of every table that the numbers I mean.
abbrev pub RowMeant : List ℕ → ℕ → (Row → Type 0) → Type 0
RowMeant I i P = (F : List ℕ) (M : Table) (r : Row) → Opened F I M → RowAt M i r → P r

-- A rule with the state and the symbol that it is for.
abbrev pub row_of : ℕ → ℕ → Rule → Row
row_of q f r = record { state = q; symbol = f; rule = r }

-- Rule number i is the one of state q and symbol f.
pub record RuleFor (M : Table) (q f i : ℕ) (r : Rule) : Type 0 where
  pub row : RowAt M i (row_of q f r)
  pub found : find M.rows q f ≡ some r

-- Children within the limits: the words after them have at most 32 letters, their states are below 64.
abbrev pub ModestKids : List Child → Type 0
ModestKids cs = Each (λ c ds. (length c.after ≤ letters_most) × (c.state < states_most)) cs

-- A rule within the limits: its words have at most 32 letters, its states are below 64, it has at most 4 children.
pub record Modest (r : Rule) : Type 0 where
  pub first : length r.first ≤ letters_most
  pub rest : ModestKids r.rest
  pub kids : length r.rest ≤ arity_most

-- The number x, which is never 0, tells that rule number i is r: its letters, its children's states and how many they are.
pub record Encodes (x i : ℕ) (r : Rule) : Type 0 where
  pub is : x ≡ entry_of i r
  pub low : i < rows_most
  pub modest : Modest r

-- There is a rule of state q and symbol f, and x tells it.
pub record Tells (M : Table) (q f x : ℕ) : Type 0 where
  pub number : ℕ
  pub rule : Rule
  pub ruled : RuleFor M q f number rule
  pub holds : Encodes x number rule

-- The number x is what the opened table keeps for state q and symbol f: 0 if there is no rule, else what tells the rule.
pub record Kept (M : Table) (q f x : ℕ) : Type 0 where
  pub none : x ≡ 0 → find M.rows q f ≡ none
  pub some : (x ≡ 0 → ⊥) → Tells M q f x

-- The state of child j, 0 if there is no such child.
unfoldable pub state_no : List Child → ℕ → ℕ
state_no [] j = 0
state_no (c ∷ cs) zero = c.state
state_no (c ∷ cs) (suc j) = state_no cs j

-- The rules of state q are those with the numbers from `from` on and before `to`.
pub record RulesOf (M : Table) (q from to : ℕ) : Type 0 where
  pub ordered : from ≤ to
  pub few : to ≤ length M.rows
  pub rows : rows_of M.rows q ≡ slice from to M.rows
  pub exactly : (i : ℕ) (r : Row) → RowAt M i r → ((from ≤ i) × (i < to)) ↔ (r.state ≡ q)

-- At spot p of the bytes F stands the word u, and behind it the children cs.
pub record Spot (F : List ℕ) (u : Word) (cs : List Child) (p : ℕ) : Type 0 where
  pub behind : List ℕ
  pub bytes : drop p F ≡ text_of u ++ (children_text cs ++ behind)

-- The word at spot p was put into the room from `at` on, and r is the place behind it, if it has room; what lies behind the word may change too.
pub record Put (F : List ℕ) (p at : ℕ) (R R' : List ℕ) (r : ℕ) : Type 0 where
  pub start : at ≤ r
  pub within : r ≤ length R
  pub long : length R' ≡ length R
  pub written : (u : Word) (cs : List Child) → length F ≡ frames_size → Spot F u cs p → at + length u ≤ length R
      → (r ≡ at + length u) × (take r R' ≡ take at R ++ u)
