-- What looking up a rule answers: by its state and symbol, by its number. Definitions only.
use Rattle.std.specs.Prelude.{◌≡◌, List, ℕ, length, Option, Some, None}
use Rattle.std.proofs.Math.Option.{none}
use Rattle.machine.specs.Machine.{Rule, Table, find}
use Rattle.layout.specs.Leaves.{RuleFor, Spot}
use Rattle.rule_leaves.specs.declared.rule.Laid.{Laid}

-- What looking up the rule of q and f answers: its number, or that there is none.
abbrev pub Sought : Table → ℕ → ℕ → Option ℕ → Type 0
Sought M q f (Some i) = (r : Rule) × RuleFor M q f i r
Sought M q f None = find M.rows q f ≡ none

-- Where a rule's first word stands in the bytes F, and how many children the rule has.
pub record LaidOut (F : List ℕ) (r : Rule) (l : Laid) : Type 0 where
  pub spot : Spot F r.first r.rest l.spot
  pub kids : l.kids ≡ length r.rest
