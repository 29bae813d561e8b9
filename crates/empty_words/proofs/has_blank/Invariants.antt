-- `has_blank` meets its contract. Invariant: no rule of the state before number i is such a rule.
use Prim.Native.Nat.{◌≤◌}
use Rattle.text.specs.Limits.{rows_most}
use Rattle.layout.specs.Layout.{MeantBy}
use Rattle.layout.specs.Leaves.{RulesOf}
use Rattle.empty_words.proofs.Rules.{NoneBefore}
use Rattle.empty_words.proofs.has_blank.Given as goal

abbrev pub invariant-loop-i : goal.invariant-loop-i
invariant-loop-i l =
    (l.i-end ≤ rows_most) × MeantBy l.numbers (λ M. RulesOf M l.q l.initial.i l.i-end × NoneBefore M l.values l.initial.i l.i)
