-- What is left when no rule adds anything: summaries that are witnessed and covering.
use mathlib.Core.Path.{◌≡◌, sym, subst}
use mathlib.Core.List.{List}
use Prim.Native.Nat.{ℕ, ◌<◌}
use native.Mathlib.Omega.{arith}
use lib.ListN.{length, length-map}
use Rattle.machine.specs.Machine.{Row, Table, RowFits}
use Rattle.machine.proofs.Find.{every_at}
use Rattle.text.specs.Limits.{states_most}
use Rattle.end_laws.specs.Ends.{Side, at}
use Rattle.end_laws.specs.Meaning.{Witnessed, Covering, Closed}
use Rattle.end_laws.proofs.Rules.{closed_covering}
use Rattle.end_laws.proofs.Known.{visit_settled}
use Rattle.layout.specs.Layout.{Opened}
use Rattle.summary.specs.Codes.{decode, K, summaries}
use Rattle.summary.specs.declared.Summary.{Summary}
use Rattle.summary.proofs.Growing.{summary_all}
use Rattle.empty_words.specs.Blank.{EmptyTold, AllListed}
use Rattle.end_summaries.specs.Steps.{ReadySummaries, Tried, RulesOfListed}

module _ (M : Table) (side : Side) where
  module _ {tried : ℕ → Row → Type 0} {xs ys : List Summary} {k : ℕ} (t : Tried M side tried xs ys k) where
    -- Rules that are added to what is witnessed leave it so.
    pub tried_witnessed : Witnessed M side (K xs) → Witnessed M side (K ys)
    tried_witnessed W = subst (Witnessed M side) (summary_all ys) (t.keeps (subst (Witnessed M side) (sym (summary_all xs)) W))

    -- And they leave the empty words told.
    pub tried_told : EmptyTold M (K xs) → EmptyTold M (K ys)
    tried_told T = subst (EmptyTold M) (summary_all ys) (t.tells (subst (EmptyTold M) (sym (summary_all xs)) T))

  module _ {F I : List ℕ} (o : Opened F I M) (O : List ℕ) (n : ℕ) (listed : AllListed M O n) {xs ys : List Summary} {k : ℕ} (long : length ys ≡ states_most)
      (t : Tried M side (RulesOfListed O 0 n) xs ys k) (z : k ≡ 0) (R : ReadySummaries M side (K xs)) where
    -- No row adds anything.
    tried_closed : Closed M side (at (summaries ys))
    tried_closed i row e =
        let fits = every_at (RowFits M) M.rows o.limited.made.rows i row e in
        let place = listed row.state fits.state in
        let inside : row.state < length (summaries ys) = rw (length-map ys decode) (omega (arith, fits.state, o.limited.states, long)) in
        let ready = subst (ReadySummaries M side) (sym (summary_all xs)) R in
        visit_settled side row (summaries ys) inside (t.rests ready z i row e (place.0, omega arith, place.1, place.2))

    -- Every word fits.
    pub tried_covering : Covering M side (K ys)
    tried_covering = subst (Covering M side) (summary_all ys) (closed_covering M side (at (summaries ys)) tried_closed)
