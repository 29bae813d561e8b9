-- Frame 03 behind the symbol: what is read there is a rule.
use mathlib.Core.Path.{◌≡◌, refl, ◌∙◌}
use mathlib.Core.Bool.{true}
use mathlib.Core.List.{List}
use Prim.Native.Nat.{ℕ}
use lib.ListN.{get_or}
use Rattle.words.specs.Word.{Word}
use Rattle.machine.specs.Machine.{Child, Rule, Table}
use Rattle.text.specs.Fields.{Parsed, got, fault, Field, and_then, ◌>>=◌, pure, check, text, children}
use Rattle.text.specs.Frames.{Stage, rules, rises, with_row}
use Rattle.text.proofs.Fields.{check_got}
use Rattle.rule_frames.specs.Kept.{rule_field}

-- The table with a rule for q and f more.
abbrev pub with_rule : Table → ℕ → ℕ → Rule → Table
with_rule M q f r = with_row M (record { state = q; symbol = f; rule = r })

-- What is read behind the symbol.
abbrev pub behind_symbol : Table → ℕ → ℕ → Field Stage
behind_symbol M q f = do
  t ← check (rises M.rows q f) 3
  u ← text
  cs ← children M.states (get_or M.arities f 0)
  pure (rules (with_rule M q f (record { first = u; rest = cs })))

-- A rule's fields, read one after the other, are the rule.
fields_rule : (o : Parsed Word) (c : Field (List Child)) (g : Rule → Stage)
    → and_then o (λ u. c >>= λ cs. pure (g (record { first = u; rest = cs })))
    ≡ and_then (and_then o (λ u. c >>= λ cs. pure (record { first = u; rest = cs }))) (λ r. pure (g r))
fields_rule (fault n) c g = refl
fields_rule (got u bs) c g = go (c bs)
  where
    go : (d : Parsed (List Child))
        → and_then d (λ cs. pure (g (record { first = u; rest = cs })))
        ≡ and_then (and_then d (λ cs. pure {A = Rule} (record { first = u; rest = cs }))) (λ r. pure (g r))
    go (got cs s) = refl
    go (fault n) = refl

-- Where the place rises, the rule's fields decide.
pub fields_decide : (M : Table) (q f : ℕ) (bs : List ℕ) → rises M.rows q f ≡ true
    → behind_symbol M q f bs ≡ and_then (rule_field M.states (get_or M.arities f 0) bs) (λ r. pure (rules (with_rule M q f r)))
unfolding rule_field
fields_decide M q f bs e =
    check_got (rises M.rows q f) 3 _ bs e
    ∙ fields_rule (text bs) (children M.states (get_or M.arities f 0)) (λ r. rules (with_rule M q f r))
