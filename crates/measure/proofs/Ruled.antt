-- What is kept for a state and a symbol, if it is not 0, tells a rule that fits the table.
use mathlib.Core.Path.{◌≡◌, sym, ◌∙◌}
use mathlib.Core.List.{List, [], ◌∷◌}
use mathlib.Core.Option.{some, none-ne-some}
use Prim.Native.Nat.{ℕ, ◌<◌, ◌≤◌}
use native.Mathlib.Omega.{arith}
use lib.ListN.{length}
use Rattle.machine.specs.Machine.{Child, Rule, Table, Each, find}
use Rattle.machine.proofs.Find.{find_fits}
use Rattle.text.specs.Limits.{states_most, symbols_most, letters_most}
use Rattle.layout.specs.Layout.{Opened}
use Rattle.layout.specs.Leaves.{Tells, Kept}
use Rattle.waiting.proofs.TreesFor.{Fitted}

-- The states of children within the limits are few enough.
states_small : (cs : List Child) → Each (λ c ds. (length c.after ≤ letters_most) × (c.state < states_most)) cs → Each (λ c ds. c.state < states_most) cs
states_small [] h = tt
states_small (c ∷ cs) h = (h.0.1, states_small cs h.1)

module _ {F I : List ℕ} {M : Table} (o : Opened F I M) (p f : ℕ) where
  -- The rule that is told fits the table.
  pub told_fits : {x : ℕ} (t : Tells M p f x) → Fitted M f t.rule
  told_fits t =
      let a = find_fits M o.limited.made p f t.rule t.ruled.found in
      record { symbol = a.symbol; arity = a.arity; own = a.children; states = states_small t.rule.rest t.holds.modest.rest }

  -- A symbol that has a rule is one that tables may have.
  pub found_symbol : (r : Rule) → find M.rows p f ≡ some r → f < symbols_most
  found_symbol r e = omega (arith, (find_fits M o.limited.made p f r e).symbol, o.limited.symbols)

-- Where a rule is found, what is kept is not 0.
pub found_kept : {M : Table} (p f x : ℕ) (r : Rule) → Kept M p f x → find M.rows p f ≡ some r → x ≡ 0 → ⊥
found_kept p f x r k e z = none-ne-some r (sym (k.none z) ∙ e)
