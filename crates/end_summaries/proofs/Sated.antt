-- States with several letters: where the empty words are told, no rule adds anything to them.
use mathlib.Core.Path.{◌≡◌, refl, sym, ap, ◌∙◌, subst}
use mathlib.Core.Bool.{Bool, true, false, ◌||◌}
use mathlib.Core.List.{List}
use mathlib.Core.Logic.{⊎_elim}
use Prim.Native.Nat.{ℕ}
use lib.ListN.{set}
use Rattle.words.specs.Word.{Holds}
use Rattle.machine.specs.Machine.{Row, Table}
use Rattle.machine.specs.Earliest.{L}
use Rattle.end_laws.specs.Ends.{Side, several, Ends, both, join, value, at}
use Rattle.end_laws.specs.Companion.{visit}
use Rattle.end_laws.proofs.Sides.{end_empty}
use Rattle.end_laws.proofs.Rules.{value_shown}
use Rattle.end_laws.proofs.Known.{Found, at_set}
use Rattle.summary.specs.Codes.{K, summaries}
use Rattle.summary.specs.declared.Summary.{Summary}
use Rattle.summary.proofs.Growing.{summary_all}
use Rattle.empty_words.specs.Blank.{EmptyTold}
use Rattle.end_summaries.specs.Steps.{ReadySummaries}
use Rattle.end_summaries.proofs.Steps.{visit_none}

-- A summary with several letters is not changed by words, if it has the empty word where they have it.
join_several : (x y : Ends) → x.letters ≡ several → (y.empty ≡ true → x.empty ≡ true) → join x y ≡ x
join_several x y e f = λ i. record { empty = go x.empty y.empty f i; letters = (ap (λ l. both l y.letters) e ∙ sym e) i }
  where
    go : (a b : Bool) → (b ≡ true → a ≡ true) → a || b ≡ a
    go true b h = refl
    go false false h = refl
    go false true h = sym (h refl)

module _ (M : Table) (side : Side) where
  -- A rule has the empty word only where it is told of the rule's state.
  empty_ready : (k : ℕ → Ends) → ReadySummaries M side k → (row : Row) → Found M side row → (value side k row.rule).empty ≡ true
      → (k row.state).empty ≡ true
  empty_ready k R row found e =
      let s = (value_shown M side k R.0 row.state row.symbol row.rule found).empty e in
      R.1 row.state (subst (Holds (L M row.state)) (end_empty side s.0 s.2) s.1)

  -- No rule adds anything to a state with several letters.
  pub several_rests : (xs : List Summary) → ReadySummaries M side (at (summaries xs)) → (row : Row) → Found M side row → (K xs row.state).letters ≡ several
      → visit side row (summaries xs) ≡ summaries xs
  several_rests xs R row found e =
      let told = empty_ready (K xs) (subst (ReadySummaries M side) (summary_all xs) R) row found in
      sym (visit_none side row row.state refl xs (join_several (K xs row.state) (value side (K xs) row.rule) e told))

  -- A rule leaves the empty words told.
  pub visit_told : (row : Row) (vs : List Ends) → EmptyTold M (at vs) → EmptyTold M (at (visit side row vs))
  unfolding visit
  visit_told row vs T p h = ⊎_elim same other (at_set vs row.state joined p)
    where
      new : Ends
      new = value side (at vs) row.rule

      joined : Ends
      joined = join (at vs row.state) new

      same : at (set vs row.state joined) p ≡ at vs p → (at (set vs row.state joined) p).empty ≡ true
      same e = ap (λ (x : Ends). x.empty) e ∙ T p h

      other : (p ≡ row.state) × (at (set vs row.state joined) p ≡ joined) → (at (set vs row.state joined) p).empty ≡ true
      other e = ap (λ (x : Ends). x.empty) e.1 ∙ ap (λ b. b || new.empty) (subst (λ n. (at vs n).empty ≡ true) e.0 (T p h))
