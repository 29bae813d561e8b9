-- Which states have the empty word, as it is found before letters are looked for. Definitions only.
use Rattle.std.specs.Prelude.{◌≡◌, true, List, [], ◌⊎◌, ℕ, ◌≤◌, ◌<◌, get_or}
use Rattle.words.specs.Word.{Holds}
use Rattle.machine.specs.Machine.{Child, Rule, Row, Table, Each}
use Rattle.machine.specs.Earliest.{L}
use Rattle.text.specs.Limits.{states_most}
use Rattle.end_laws.specs.Ends.{Ends}
use Rattle.layout.specs.Layout.{rule_letters, MeantBy}
use Rattle.layout.specs.Leaves.{RowAt}
use Rattle.summary.specs.Codes.{untold, only_empty}
use Rattle.summary.specs.declared.Summary.{Summary}

-- What is kept for the states tells of the empty word alone, and truly.
pub record Blanks (M : Table) (xs : List Summary) : Type 0 where
  pub told : (q : ℕ) → (get_or xs q untold ≡ untold) ⊎ ((get_or xs q untold ≡ only_empty) × Holds (L M q) [])

-- The empty word is told of every state that has it.
abbrev pub EmptyTold : Table → (ℕ → Ends) → Type 0
EmptyTold M k = (q : ℕ) → Holds (L M q) [] → (k q).empty ≡ true

-- Something is kept for each child.
abbrev pub AllBlank : List Summary → List Child → Type 0
AllBlank xs cs = Each (λ c ds. get_or xs c.state untold ≡ untold → ⊥) cs

-- A rule writes no letter itself, and something is kept for each of its children.
pub record BlankRule (xs : List Summary) (r : Rule) : Type 0 where
  pub letters : rule_letters r ≡ 0
  pub kids : AllBlank xs r.rest

-- State q has such a rule.
pub record BlankOf (M : Table) (xs : List Summary) (q : ℕ) : Type 0 where
  pub number : ℕ
  pub row : Row
  pub there : RowAt M number row
  pub state : row.state ≡ q
  pub blank : BlankRule xs row.rule

-- States were tried by their rules, and xs became ys. What is told stays true, and if k is 0 then nothing was changed, and something is kept for
-- each state that was tried and has such a rule.
pub record BlanksMarked (M : Table) (tried : ℕ → Type 0) (xs ys : List Summary) (k : ℕ) : Type 0 where
  pub keeps : Blanks M xs → Blanks M ys
  pub same : k ≡ 0 → ys ≡ xs
  pub rests : k ≡ 0 → (q : ℕ) → q < states_most → tried q → BlankOf M ys q → get_or ys q untold ≡ untold → ⊥

-- That is so for every table that is opened in the numbers I.
abbrev pub Marks : List ℕ → (ℕ → Type 0) → List Summary → List Summary → ℕ → Type 0
Marks I tried xs ys k = MeantBy I (λ M. BlanksMarked M tried xs ys k)

-- State q is one of the order O from place i on and before place n.
abbrev pub ListedBetween : List ℕ → ℕ → ℕ → ℕ → Type 0
ListedBetween O i n q = (j : ℕ) × (i ≤ j) × (j < n) × (get_or O j 0 ≡ q)

-- Each state of the table is among the first n of the order O.
abbrev pub AllListed : Table → List ℕ → ℕ → Type 0
AllListed M O n = (q : ℕ) → q < M.states → (i : ℕ) × (i < n) × (get_or O i 0 ≡ q)
