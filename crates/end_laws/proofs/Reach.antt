-- The states that are marked in the end are those that are reached.
use mathlib.Core.Path.{◌≡◌, refl, sym, ap, ◌∙◌, subst}
use mathlib.Core.Bool.{Bool, true, false, false≢true}
use mathlib.Core.List.{List, [], ◌∷◌, Memᴰ}
use mathlib.Core.Option.{some}
use Prim.Native.Nat.{ℕ, zero, suc, ◌<◌}
use native.Mathlib.Decide.{ℕ_discrete, dec_lt}
use native.Mathlib.Omega.{arith}
use lib.ListN.{length, set, replicate, get_elem?, length-set, length-replicate, get_or-replicate, get_or-eq_default}
use lib.Seq.{get_or-set_same, get_or-set_other}
use Rattle.machine.specs.Machine.{Child, Rule, Row, Table, RowFits, WellMade, Each, find}
use Rattle.machine.specs.Earliest.{Reached, initial, below}
use Rattle.machine.proofs.Find.{every_at, find_index, find_row}
use Rattle.end_laws.specs.Companion.{on, marked, mark_all, follow, spread, reached}
use Rattle.end_laws.proofs.Settle.{settle_keeps, settle_rests}
use Rattle.end_laws.proofs.Marks.{among_each, each_among, marked_le, spread_raised, follow_rests, spread_rests}

-- ---- what is reached
-- The children of a rule that is found for a state that is reached are reached.
rest_reached : (M : Table) (q f : ℕ) (r : Rule) → find M.rows q f ≡ some r → Reached M q → Each (λ c ds. Reached M c.state) r.rest
rest_reached M q f r e h = among_each (λ c. Reached M c.state) r.rest (λ c m. below f h e m refl)

-- What holds of the initial state, and with a row's state of its children, holds of every state that is reached.
reached_within : (M : Table) (P : ℕ → Type 0) → P M.start
    → ((i : ℕ) (row : Row) → get_elem? M.rows i ≡ some row → P row.state → Each (λ c ds. P c.state) row.rule.rest)
    → (q : ℕ) → Reached M q → P q
reached_within M P s k q (initial e) = subst P e s
reached_within M P s k q (below {q = p} {r = r} {c = c} f h e m i) =
    let a = find_index M.rows p f r e in
    let b = k a.index a.row a.there (subst P (sym a.state) (reached_within M P s k p h)) in
    let among = subst (λ x. Memᴰ c x.rest) (sym a.rule) m in
    subst P i (each_among (λ d. P d.state) a.row.rule.rest c among b)

-- ---- marks that are sound
module _ (M : Table) where
  -- Only states that are reached are marked.
  abbrev Sound : List Bool → Type 0
  Sound ms = (q : ℕ) → on ms q ≡ true → Reached M q

  -- One mark more, at a state that is reached.
  mark_sound : (ms : List Bool) (q : ℕ) → Sound ms → Reached M q → Sound (set ms q true)
  mark_sound ms q s r p e = go (ℕ_discrete p q)
    where
      go : Dec (p ≡ q) → Reached M p
      go (yes i) = subst (Reached M) (sym i) r
      go (no n) = s p (sym (get_or-set_other ms q p true false n) ∙ e)

  -- The children of a rule, if they are reached.
  mark_all_sound : (cs : List Child) (ms : List Bool) → Sound ms → Each (λ c ds. Reached M c.state) cs → Sound (mark_all cs ms)
  unfolding mark_all
  mark_all_sound [] ms s h = s
  mark_all_sound (c ∷ cs) ms s h = mark_all_sound cs (set ms c.state true) (mark_sound ms c.state s h.0) h.1

  -- A row whose rule is found.
  follow_sound : (row : Row) → find M.rows row.state row.symbol ≡ some row.rule → (ms : List Bool) → Sound ms → Sound (follow row ms)
  unfolding follow
  follow_sound row f ms s = go (on ms row.state) refl
    where
      go : (t : Bool) → on ms row.state ≡ t → Sound (elim t as (λ x. List Bool) [ true ↦ mark_all row.rule.rest ms | false ↦ ms ])
      go true e = mark_all_sound row.rule.rest ms s (rest_reached M row.state row.symbol row.rule f (s row.state e))
      go false e = s

  -- All rows.
  spread_sound : (rows : List Row)
      → ((i : ℕ) (row : Row) → get_elem? rows i ≡ some row → find M.rows row.state row.symbol ≡ some row.rule)
      → (ms : List Bool) → Sound ms → Sound (spread rows ms)
  unfolding spread
  spread_sound [] f ms s = s
  spread_sound (row ∷ rows) f ms s = spread_sound rows (λ i. f (suc i)) (follow row ms) (follow_sound row (f zero row refl) ms s)

-- ---- the marks in the end
module _ (M : Table) (W : WellMade M) where
  -- The marks in the beginning: the initial state alone.
  abbrev begun : List Bool
  begun = set (replicate M.states false) M.start true

  -- There is a mark for each state.
  begun_length : length begun ≡ M.states
  begun_length = length-set (replicate M.states false) M.start true ∙ length-replicate M.states false

  -- The marks in the beginning are at states that are reached.
  begun_sound : Sound M begun
  begun_sound = mark_sound M (replicate M.states false) M.start (λ q e. absurd (false≢true (sym (none_marked q) ∙ e))) (initial refl)
    where
      none_marked : (q : ℕ) → on (replicate M.states false) q ≡ false
      none_marked q = go (dec_lt q M.states)
        where
          go : Dec (q < M.states) → on (replicate M.states false) q ≡ false
          go (yes l) = get_or-replicate M.states q false false l
          go (no l) = get_or-eq_default (replicate M.states false) false (rw (length-replicate M.states false) (omega arith))

  -- A state that is marked in the end is reached.
  pub marked_reached : (q : ℕ) → on (reached M) q ≡ true → Reached M q
  unfolding reached
  marked_reached =
      settle_keeps marked (spread M.rows) (Sound M) (spread_sound M M.rows (λ i row e. find_row M.rows W.rising i row e))
      M.states begun begun_sound

  -- There is a mark for each state in the end.
  reached_length : length (reached M) ≡ M.states
  unfolding reached
  reached_length =
      settle_keeps marked (spread M.rows) (λ ms. length ms ≡ M.states) (λ ms e. (spread_raised M.rows ms).long ∙ e)
      M.states begun begun_length

  -- The initial state is marked in the end.
  start_marked : on (reached M) M.start ≡ true
  unfolding reached
  start_marked =
      settle_keeps marked (spread M.rows) (λ ms. on ms M.start ≡ true) (λ ms e. (spread_raised M.rows ms).keeps M.start e)
      M.states begun (get_or-set_same (replicate M.states false) M.start true false (rw (length-replicate M.states false) W.start))

  -- One more time over all rows adds no mark.
  reached_rests : marked (spread M.rows (reached M)) ≡ marked (reached M)
  unfolding reached
  reached_rests =
      settle_rests marked (spread M.rows) (λ ms. length ms ≡ M.states) M.states
      (λ ms e. (spread_raised M.rows ms).long ∙ e) (λ ms e. omega (arith, marked_le ms, e)) (λ ms. (spread_raised M.rows ms).grows)
      M.states begun begun_length (omega arith)

  -- A child that adds no mark is marked.
  still_marked : (cs : List Child) → Each (λ c ds. c.state < M.states) cs
      → Each (λ c ds. set (reached M) c.state true ≡ reached M) cs
      → Each (λ c ds. on (reached M) c.state ≡ true) cs
  still_marked [] l s = tt
  still_marked (c ∷ cs) l s =
      let there = get_or-set_same (reached M) c.state true false (rw reached_length l.0) in
      (ap (λ x. on x c.state) (sym s.0) ∙ there, still_marked cs l.1 s.1)

  -- A state that is reached is marked in the end.
  pub reached_marked : (q : ℕ) → Reached M q → on (reached M) q ≡ true
  reached_marked = reached_within M (λ q. on (reached M) q ≡ true) start_marked children_marked
    where
      children_marked : (i : ℕ) (row : Row) → get_elem? M.rows i ≡ some row → on (reached M) row.state ≡ true
          → Each (λ c ds. on (reached M) c.state ≡ true) row.rule.rest
      children_marked i row e h =
          let inside = (every_at (RowFits M) M.rows W.rows i row e).children in
          let rests = spread_rests M.rows (reached M) reached_rests i row e in
          still_marked row.rule.rest inside (follow_rests row (reached M) rests h)
