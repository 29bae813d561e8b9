-- What one rule adds to the summaries.
use mathlib.Core.Path.{◌≡◌, sym, ap, ◌∙◌}
use mathlib.Core.List.{List}
use Prim.Native.Nat.{ℕ}
use lib.ListN.{get_or, set}
use Rattle.machine.specs.Machine.{Row}
use Rattle.end_laws.specs.Ends.{Side, join, value, at}
use Rattle.end_laws.specs.Companion.{visit}
use Rattle.summary.specs.Codes.{decode, untold, K, summaries}
use Rattle.summary.specs.declared.Summary.{Summary}
use Rattle.summary.proofs.Growing.{map_set, summary_at, summary_all, set_same}

-- A row of state q.
module _ (side : Side) (row : Row) (q : ℕ) (es : row.state ≡ q) (xs : List Summary) where
  -- What the rule joins, by what is kept.
  visit_joins : visit side row (summaries xs) ≡ set (summaries xs) q (join (K xs q) (value side (K xs) row.rule))
  unfolding visit
  visit_joins =
      ap (λ p. set (summaries xs) p (join (at (summaries xs) p) (value side (at (summaries xs)) row.rule))) es
      ∙ ap (λ x. set (summaries xs) q (join x (value side (at (summaries xs)) row.rule))) (summary_at xs q)
      ∙ ap (λ k. set (summaries xs) q (join (K xs q) (value side k row.rule))) (summary_all xs)

  -- A rule that adds nothing to its state's summary changes nothing.
  pub visit_none : join (K xs q) (value side (K xs) row.rule) ≡ K xs q → summaries xs ≡ visit side row (summaries xs)
  visit_none e = sym (visit_joins ∙ set_same xs q _ e)

  module _ (v n : Summary) (ev : decode v ≡ value side (K xs) row.rule) (en : decode n ≡ join (K xs q) (decode v)) where
    -- A rule whose summary is joined in leaves what is there, if that is what comes out.
    pub visit_same : n ≡ get_or xs q untold → summaries xs ≡ visit side row (summaries xs)
    visit_same e = visit_none (ap (join (K xs q)) (sym ev) ∙ sym en ∙ ap decode e)

    -- And otherwise what comes out is put there.
    pub visit_one : summaries (set xs q n) ≡ visit side row (summaries xs)
    visit_one = map_set decode xs q n ∙ ap (set (summaries xs) q) (en ∙ ap (join (K xs q)) ev) ∙ sym visit_joins
