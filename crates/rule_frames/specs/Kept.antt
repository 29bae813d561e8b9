-- What is kept of a rule while a text is read, and the stage behind its frame. Definitions only.
use Rattle.std.specs.Prelude.{◌≡◌, Result, Ok, Err, List, ℕ, ◌+◌, ◌≤◌}
use Rattle.std.proofs.Math.Seq.{slice}
use Rattle.machine.specs.Machine.{Rule}
use Rattle.text.specs.Fields as fields
use Rattle.text.specs.Fields.{Parsed, got, fault, ◌>>=◌, pure}
use Rattle.layout.specs.Layout.{entry_of}
use Rattle.head_frames.specs.declared.Head.{Head}
use Rattle.head_frames.specs.declared.Stage.{Stage}
use Rattle.head_frames.specs.declared.Phase.TheVariants as phase
use Rattle.fields.specs.declared.Fault.{Fault}
use Rattle.fields.specs.Read.{number_of}

-- The head with one rule more.
abbrev pub more_rules : Head → Head
more_rules h = record { symbols = h.symbols; states = h.states; start = h.start; before = h.before; after = h.after; rows = h.rows; rules = h.rules + 1 }

-- The stage behind a rule at place k, whose frame ends at `end`.
abbrev pub behind_rule : Stage → ℕ → ℕ → Stage
behind_rule st k end = record { phase = phase.Rules; head = more_rules st.head; last = k + 1; used = end }

-- A rule's fields behind its symbol: the word u0, then for each child its state and a word.
unfoldable pub rule_field : ℕ → ℕ → fields.Field Rule
rule_field states k = do
  u ← fields.text
  cs ← fields.children states k
  pure (record { first = u; rest = cs })

-- What is kept for the state and the symbol of rule number i, and where the next field stands.
pub record Entered (F bs : List ℕ) (r : Rule) (i at end then x : ℕ) : Type 0 where
  pub left : bs ≡ slice then end F
  pub from : at ≤ then
  pub inside : then ≤ end
  pub entry : x ≡ entry_of i r

-- What reading a rule's fields answers: what is kept for the rule, or the fault with the number of no.
abbrev pub RuleRead : List ℕ → ℕ → ℕ → ℕ → ℕ → Parsed Rule → Result ℕ Fault → Type 0
RuleRead F i at end then (got r bs) (Ok x) = Entered F bs r i at end then x
RuleRead F i at end then (got r bs) (Err e) = ⊥
RuleRead F i at end then (fault k) (Ok x) = ⊥
RuleRead F i at end then (fault k) (Err e) = number_of e ≡ k
