-- The judgement of a table: 13 to 18 in number order, each at the least place, or earliest. Definitions only.
use Rattle.std.specs.Prelude.{◌≡◌, List, [], ◌∷◌, ◌⊎◌, ℕ, ◌<◌, length}
use Rattle.std.proofs.Math.Option.{some}
use Rattle.std.proofs.Math.ListN.{get_elem?}
use Rattle.words.specs.declared.No.{No}
use Rattle.words.specs.Reply.{no_at}
use Rattle.words.specs.Word.{NoPrefix, NoSuffix}
use Rattle.machine.specs.Machine.{Row, Table}
use Rattle.machine.specs.Earliest.{L, Reached, HasWord, LeftStart, LeftRule}

-- A condition with the number that is given where it fails: it is asked of each place below `places`.
pub record Condition : Type 1 where
  pub number : ℕ
  pub places : ℕ
  pub holds : ℕ → Type 0

-- The conditions in number order. Places are states for 13 to 16, 0 for the initial rule, and a rule's index for 18.
abbrev pub conditions : Table → List Condition
conditions M =
    record { number = 13; places = M.states; holds = Reached M } ∷
    record { number = 14; places = M.states; holds = HasWord M } ∷
    record { number = 15; places = M.states; holds = λ q. NoPrefix (L M q) } ∷
    record { number = 16; places = M.states; holds = λ q. NoSuffix (L M q) } ∷
    record { number = 17; places = 1; holds = λ p. LeftStart M } ∷
    record { number = 18; places = length M.rows; holds = λ i. (r : Row) → get_elem? M.rows i ≡ some r → LeftRule M r.rule } ∷
    []

pub data Verdict : Type 0 where
  earliest : Verdict
  late_as : No → Verdict

-- Late with number n at place p.
abbrev pub late : ℕ → ℕ → Verdict
late n p = late_as (no_at n p)

-- The condition holds at every place.
abbrev pub Met : Condition → Type 0
Met c = (p : ℕ) → p < c.places → c.holds p

-- The condition fails at p, which is the least such place.
pub record FailsAt (c : Condition) (p : ℕ) : Type 0 where
  pub place : p < c.places
  pub fails : c.holds p → ⊥
  pub least : (r : ℕ) → r < p → c.holds r

-- The verdict by a list of conditions: the first that fails gives its number, with the least place; if none fails, earliest.
abbrev pub JudgedBy : List Condition → Verdict → Type 0
JudgedBy [] v = v ≡ earliest
JudgedBy (c ∷ cs) v = ((p : ℕ) × FailsAt c p × (v ≡ late c.number p)) ⊎ (Met c × JudgedBy cs v)

-- v is the verdict of the table.
abbrev pub Judged : Table → Verdict → Type 0
Judged M v = JudgedBy (conditions M) v
