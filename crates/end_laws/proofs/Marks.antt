-- The states that the sweeps mark are those that are reached.
use mathlib.Core.Path.{◌≡◌, refl, sym, ap, ◌∙◌, subst}
use mathlib.Core.Bool.{Bool, true, false}
use mathlib.Core.List.Memᴰ
use mathlib.Core.List.{List, [], ◌∷◌, Memᴰ}
use mathlib.Core.Logic.{◌⊎◌, inl, inr, ⊎_elim}
use mathlib.Core.Option.{some, none-ne-some, some-injective}
use Prim.Native.Nat.{ℕ, zero, suc, ◌≤◌, ◌<◌}
use native.Mathlib.Decide.{ℕ_discrete, dec_lt}
use native.Mathlib.Omega.{arith}
use lib.ListN.{length, set, get_elem?, length-set}
use lib.Seq.{get_or-set_same, get_or-set_other, set_out}
use Rattle.machine.specs.Machine.{Child, Row, Each}
use Rattle.end_laws.specs.Companion.{on, marked, mark_all, follow, spread}

-- ---- children one by one
-- What holds of every child that is among them holds of each.
pub among_each : (P : Child → Type 0) (cs : List Child) → ((c : Child) → Memᴰ c cs → P c) → Each (λ c ds. P c) cs
among_each P [] f = tt
among_each P (c ∷ cs) f = (f c (Memᴰ.head refl), among_each P cs (λ d m. f d (Memᴰ.tail m)))

-- What holds of each child holds of one that is among them.
pub each_among : (P : Child → Type 0) (cs : List Child) (c : Child) → Memᴰ c cs → Each (λ d ds. P d) cs → P c
each_among P [] c m h = absurd (Memᴰ.not-nil m)
each_among P (d ∷ cs) c m h = ⊎_elim (λ e. subst P (sym e) h.0) (λ k. each_among P cs c k h.1) (Memᴰ.cases_cons m)

-- ---- one mark
-- There are at most as many marks as states.
pub marked_le : (ms : List Bool) → marked ms ≤ length ms
unfolding marked
marked_le [] = omega arith
marked_le (true ∷ ms) = omega (arith, marked_le ms)
marked_le (false ∷ ms) = omega (arith, marked_le ms)

-- A mark changes nothing, or there is one more.
mark_rises : (ms : List Bool) (q : ℕ) → (set ms q true ≡ ms) ⊎ (marked ms < marked (set ms q true))
unfolding marked
mark_rises [] q = inl refl
mark_rises (true ∷ ms) zero = inl refl
mark_rises (false ∷ ms) zero = inr (omega arith)
mark_rises (true ∷ ms) (suc q) = ⊎_elim (λ e. inl (ap (λ x. true ∷ x) e)) (λ h. inr (omega arith)) (mark_rises ms q)
mark_rises (false ∷ ms) (suc q) = ⊎_elim (λ e. inl (ap (λ x. false ∷ x) e)) (λ h. inr (omega arith)) (mark_rises ms q)

-- Marks that are raised: as many states, and no mark lost; as many marks only if nothing changed.
pub record MarksRaised (ms ns : List Bool) : Type 0 where
  pub long : length ns ≡ length ms
  pub keeps : (q : ℕ) → on ms q ≡ true → on ns q ≡ true
  pub grows : marked ms ≤ marked ns
  pub rests : marked ns ≡ marked ms → ns ≡ ms

-- Marks that stay are raised.
raised_none : (ms : List Bool) → MarksRaised ms ms
raised_none ms = record { long = refl; keeps = λ q h. h; grows = omega arith; rests = λ e. refl }

-- Marks that are raised twice, to as many marks, did not change the first time.
raised_first : {ms ns os : List Bool} → MarksRaised ms ns → MarksRaised ns os → marked os ≡ marked ms → ns ≡ ms
raised_first h k e = h.rests (omega (arith, h.grows, k.grows))

-- Marks that are raised twice are raised.
raised_more : {ms ns os : List Bool} → MarksRaised ms ns → MarksRaised ns os → MarksRaised ms os
raised_more h k =
    record {
      long = k.long ∙ h.long;
      keeps = λ q i. k.keeps q (h.keeps q i);
      grows = omega (arith, h.grows, k.grows);
      rests = λ e. let s = raised_first h k e in k.rests (e ∙ sym (ap marked s)) ∙ s;
    }

-- A mark loses none.
mark_keeps : (ms : List Bool) (q p : ℕ) → on ms p ≡ true → on (set ms q true) p ≡ true
mark_keeps ms q p h = go (ℕ_discrete p q) (dec_lt q (length ms))
  where
    go : Dec (p ≡ q) → Dec (q < length ms) → on (set ms q true) p ≡ true
    go (yes e) (yes l) = subst (λ x. on (set ms q true) x ≡ true) (sym e) (get_or-set_same ms q true false l)
    go (yes e) (no l) = ap (λ x. on x p) (set_out ms q true (omega arith)) ∙ h
    go (no n) d = get_or-set_other ms q p true false n ∙ h

-- One mark.
mark_raised : (ms : List Bool) (q : ℕ) → MarksRaised ms (set ms q true)
mark_raised ms q =
    record {
      long = length-set ms q true;
      keeps = mark_keeps ms q;
      grows = ⊎_elim (λ e. omega (arith, ap marked e)) (λ h. omega arith) (mark_rises ms q);
      rests = λ e. ⊎_elim (λ h. h) (λ h. absurd (omega arith)) (mark_rises ms q);
    }

-- The marks of the children of a rule.
mark_all_raised : (cs : List Child) (ms : List Bool) → MarksRaised ms (mark_all cs ms)
unfolding mark_all
mark_all_raised [] ms = raised_none ms
mark_all_raised (c ∷ cs) ms = raised_more (mark_raised ms c.state) (mark_all_raised cs (set ms c.state true))

-- The marks of a row, by whether its state is marked.
abbrev followed : Row → List Bool → Bool → List Bool
followed row ms t = elim t as (λ x. List Bool) [ true ↦ mark_all row.rule.rest ms | false ↦ ms ]

-- They are raised.
follow_raised : (row : Row) (ms : List Bool) → MarksRaised ms (follow row ms)
unfolding follow
follow_raised row ms = go (on ms row.state)
  where
    go : (t : Bool) → MarksRaised ms (followed row ms t)
    go true = mark_all_raised row.rule.rest ms
    go false = raised_none ms

-- The marks of all rows are raised.
pub spread_raised : (rows : List Row) (ms : List Bool) → MarksRaised ms (spread rows ms)
unfolding spread
spread_raised [] ms = raised_none ms
spread_raised (row ∷ rows) ms = raised_more (follow_raised row ms) (spread_raised rows (follow row ms))

-- ---- no mark more
-- If the children of a rule add no mark, each of them adds none.
mark_all_rests : (cs : List Child) (ms : List Bool) → marked (mark_all cs ms) ≡ marked ms → Each (λ c ds. set ms c.state true ≡ ms) cs
unfolding mark_all
mark_all_rests [] ms e = tt
mark_all_rests (c ∷ cs) ms e =
    let s = raised_first (mark_raised ms c.state) (mark_all_raised cs (set ms c.state true)) e in
    (s, mark_all_rests cs ms (subst (λ x. marked (mark_all cs x) ≡ marked ms) s e))

-- If a row adds no mark and its state is marked, each child adds none.
pub follow_rests : (row : Row) (ms : List Bool) → follow row ms ≡ ms → on ms row.state ≡ true
    → Each (λ c ds. set ms c.state true ≡ ms) row.rule.rest
unfolding follow
follow_rests row ms e h = mark_all_rests row.rule.rest ms (ap marked (subst (λ t. followed row ms t ≡ ms) h e))

-- If all rows add no mark, the first adds none.
first_rests : (row : Row) (rows : List Row) (ms : List Bool) → marked (spread (row ∷ rows) ms) ≡ marked ms → follow row ms ≡ ms
unfolding spread
first_rests row rows ms e = raised_first (follow_raised row ms) (spread_raised rows (follow row ms)) e

-- If all rows add no mark, each of them adds none.
pub spread_rests : (rows : List Row) (ms : List Bool) → marked (spread rows ms) ≡ marked ms
    → (i : ℕ) (row : Row) → get_elem? rows i ≡ some row → follow row ms ≡ ms
unfolding spread
spread_rests [] ms e i row j = absurd (none-ne-some row j)
spread_rests (r ∷ rows) ms e zero row j = subst (λ x. follow x ms ≡ ms) (some-injective r row j) (first_rests r rows ms e)
spread_rests (r ∷ rows) ms e (suc i) row j =
    spread_rests rows ms (subst (λ x. marked (spread rows x) ≡ marked ms) (first_rests r rows ms e) e) i row j
