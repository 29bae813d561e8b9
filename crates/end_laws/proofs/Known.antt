-- The summaries that sweeps leave: witnessed, and closed.
use mathlib.Core.Path.{◌≡◌, refl, sym, ap, ◌∙◌, subst}
use mathlib.Core.List.{List, [], ◌∷◌}
use mathlib.Core.Logic.{◌⊎◌, inl, inr}
use mathlib.Core.Option.{some, none-ne-some, some-injective}
use Prim.Native.Nat.{ℕ, zero, suc, ◌*◌, ◌≤◌, ◌<◌}
use native.Mathlib.Decide.{ℕ_discrete, dec_lt}
use native.Mathlib.Omega.{arith}
use lib.ListN.{length, set, replicate, get_elem?, length-set, length-replicate, get_or-replicate, get_or-eq_default}
use lib.Seq.{get_or-set_same, get_or-set_other, set_out}
use Rattle.machine.specs.Machine.{Row, Table, RowFits, WellMade, find}
use Rattle.machine.specs.Earliest.{L}
use Rattle.machine.proofs.Find.{every_at, find_row}
use Rattle.end_laws.specs.Ends.{Side, Ends, unknown, join, value, at, ranks}
use Rattle.end_laws.specs.Meaning.{Ending, Shown, Witnessed, Covering, Settled, Closed}
use Rattle.end_laws.specs.Companion.{visit, sweep, enough, known}
use Rattle.end_laws.proofs.Values.{unknown_shown}
use Rattle.end_laws.proofs.Rules.{step_witnessed, closed_covering}
use Rattle.end_laws.proofs.Ranks.{ranks_le, ranks_grow, ranks_same}
use Rattle.end_laws.proofs.Settle.{settle_keeps, settle_rests}

-- ---- one row
-- What a list holds after a store at q, in which p is q or not.
pub at_set : (vs : List Ends) (q : ℕ) (x : Ends) (p : ℕ) → (at (set vs q x) p ≡ at vs p) ⊎ ((p ≡ q) × (at (set vs q x) p ≡ x))
at_set vs q x p = go (ℕ_discrete p q) (dec_lt q (length vs))
  where
    go : Dec (p ≡ q) → Dec (q < length vs) → (at (set vs q x) p ≡ at vs p) ⊎ ((p ≡ q) × (at (set vs q x) p ≡ x))
    go (yes e) (yes l) = inr (e, subst (λ y. at (set vs q x) y ≡ x) (sym e) (get_or-set_same vs q x unknown l))
    go (yes e) (no l) = inl (ap (λ y. at y p) (set_out vs q x (omega arith)))
    go (no n) d = inl (get_or-set_other vs q p x unknown n)

-- A row's summary joined into its state's.
abbrev joined : Side → Row → List Ends → Ends
joined side row vs = join (at vs row.state) (value side (at vs) row.rule)

-- A row that changes nothing is settled.
pub visit_settled : (side : Side) (row : Row) (vs : List Ends) → row.state < length vs → visit side row vs ≡ vs → Settled side (at vs) row
unfolding visit
visit_settled side row vs l e = sym (get_or-set_same vs row.state (joined side row vs) unknown l) ∙ ap (λ y. at y row.state) e

module _ (M : Table) (side : Side) where
  -- The rule of a row is what is found for its state and symbol.
  abbrev pub Found : Row → Type 0
  Found row = find M.rows row.state row.symbol ≡ some row.rule

  -- A row keeps what is witnessed.
  pub visit_witnessed : (row : Row) → Found row → (vs : List Ends) → Witnessed M side (at vs) → Witnessed M side (at (visit side row vs))
  unfolding visit
  visit_witnessed row e vs W =
      step_witnessed M side (at vs) W row e (at (visit side row vs)) (at_set vs row.state (joined side row vs))

  -- ---- all rows
  -- A sweep keeps what is witnessed.
  sweep_witnessed : (rows : List Row) → ((i : ℕ) (row : Row) → get_elem? rows i ≡ some row → Found row)
      → (vs : List Ends) → Witnessed M side (at vs) → Witnessed M side (at (sweep side rows vs))
  unfolding sweep
  sweep_witnessed [] f vs W = W
  sweep_witnessed (row ∷ rows) f vs W = sweep_witnessed rows (λ i. f (suc i)) (visit side row vs) (visit_witnessed row (f zero row refl) vs W)

-- A sweep keeps the number of states.
sweep_length : (side : Side) (rows : List Row) (vs : List Ends) → length (sweep side rows vs) ≡ length vs
unfolding sweep visit
sweep_length side [] vs = refl
sweep_length side (row ∷ rows) vs = sweep_length side rows (visit side row vs) ∙ length-set vs row.state (joined side row vs)

-- A sweep never lowers what is known.
sweep_grows : (side : Side) (rows : List Row) (vs : List Ends) → ranks vs ≤ ranks (sweep side rows vs)
unfolding sweep visit
sweep_grows side [] vs = omega arith
sweep_grows side (row ∷ rows) vs =
    omega (arith, ranks_grow vs row.state (value side (at vs) row.rule), sweep_grows side rows (visit side row vs))

-- In a sweep after which no more is known, the first row changed nothing.
first_rests : (side : Side) (row : Row) (rows : List Row) (vs : List Ends) → ranks (sweep side (row ∷ rows) vs) ≡ ranks vs → visit side row vs ≡ vs
unfolding sweep visit
first_rests side row rows vs e =
    ranks_same vs row.state (value side (at vs) row.rule)
    (omega (arith, ranks_grow vs row.state (value side (at vs) row.rule), sweep_grows side rows (visit side row vs)))

-- In a sweep after which no more is known, no row changed anything.
sweep_rests : (side : Side) (rows : List Row) (vs : List Ends) → ranks (sweep side rows vs) ≡ ranks vs
    → (i : ℕ) (row : Row) → get_elem? rows i ≡ some row → visit side row vs ≡ vs
unfolding sweep
sweep_rests side [] vs e i row j = absurd (none-ne-some row j)
sweep_rests side (r ∷ rows) vs e zero row j = subst (λ x. visit side x vs ≡ vs) (some-injective r row j) (first_rests side r rows vs e)
sweep_rests side (r ∷ rows) vs e (suc i) row j =
    sweep_rests side rows vs (subst (λ x. ranks (sweep side rows x) ≡ ranks vs) (first_rests side r rows vs e) e) i row j

-- ---- what is known in the end
module _ (M : Table) (W : WellMade M) (side : Side) where
  -- The summaries in the beginning.
  abbrev begun : List Ends
  begun = replicate M.states unknown

  -- Nothing is known then.
  nothing_known : (q : ℕ) → at begun q ≡ unknown
  nothing_known q = go (dec_lt q M.states)
    where
      go : Dec (q < M.states) → at begun q ≡ unknown
      go (yes l) = get_or-replicate M.states q unknown unknown l
      go (no l) = get_or-eq_default begun unknown (rw (length-replicate M.states unknown) (omega arith))

  -- There is a summary for each state.
  known_length : length (known M side) ≡ M.states
  unfolding known
  known_length =
      settle_keeps ranks (sweep side M.rows) (λ vs. length vs ≡ M.states) (λ vs e. sweep_length side M.rows vs ∙ e)
      (enough M) begun (length-replicate M.states unknown)

  -- Each claim is shown by a word.
  pub known_witnessed : Witnessed M side (at (known M side))
  unfolding known
  known_witnessed =
      settle_keeps ranks (sweep side M.rows) (λ vs. Witnessed M side (at vs))
      (sweep_witnessed M side M.rows (λ i row e. find_row M.rows W.rising i row e))
      (enough M) begun (λ q. subst (Shown (Ending side (L M q))) (sym (nothing_known q)) (unknown_shown (Ending side (L M q))))

  -- One more sweep changes nothing.
  known_rests : ranks (sweep side M.rows (known M side)) ≡ ranks (known M side)
  unfolding known
  known_rests =
      settle_rests ranks (sweep side M.rows) (λ vs. length vs ≡ M.states) (3 * M.states)
      (λ vs e. sweep_length side M.rows vs ∙ e) (λ vs e. omega (arith, ranks_le vs, e)) (sweep_grows side M.rows)
      (enough M) begun (length-replicate M.states unknown) (omega arith)

  -- No row adds anything.
  known_closed : Closed M side (at (known M side))
  known_closed i row e =
      let inside = (every_at (RowFits M) M.rows W.rows i row e).state in
      visit_settled side row (known M side) (rw known_length inside) (sweep_rests side M.rows (known M side) known_rests i row e)

  -- Every word fits.
  pub known_covering : Covering M side (at (known M side))
  known_covering = closed_covering M side (at (known M side)) known_closed
