-- Rows of two states are as many exactly when each rule of one has its partner among the other's, so that none is left over.
use mathlib.Core.Path.{◌≡◌, refl, sym, ap, subst, ◌∙◌}
use mathlib.Core.Bool.{Bool, true, false}
use mathlib.Core.List.{List, [], ◌∷◌}
use mathlib.Core.Logic.{⊎_elim}
use mathlib.Core.Option.{Option, none, some, some-injective, none-ne-some}
use Prim.Native.Nat.{ℕ, zero, suc, ◌+◌, ◌-◌, ◌<◌, ◌≤◌}
use native.Mathlib.Omega.{arith}
use lib.Dec.{eqb, ltb}
use lib.ListN.{get_elem?}
use borrow.Author.Tests.{ltb-true, ltb-false, eqb-true, eqb-false}
use Rattle.words.specs.Told.{Told}
use Rattle.machine.specs.Machine.{Rule, Row, Table, Before, Rising, find}
use Rattle.machine.specs.Twins.{Rules, Match}
use Rattle.machine.proofs.Find.{every_at, index_row, rising_first, find_index, find_none}
use Rattle.layout.specs.Leaves.{RulesOf}
use Rattle.same_words.specs.Words.{Any}
use Rattle.same_rules.specs.Compared.{RowOf}
use Rattle.same_rules.proofs.Found.{there_too, here_too, row_found}

-- ---- the rows of a state
module _ {M : Table} {q from to : ℕ} (A : RulesOf M q from to) where
  -- The row with a number of q's rules.
  pub row_numbered : (i : ℕ) → from ≤ i → i < to → (s : Row) × RowOf M q i s
  row_numbered i l m =
      let x = index_row M.rows i (omega (arith, m, A.few)) in
      (x.0, record { row = x.1; state = (A.exactly i x.0 x.1).0 (l, m) })

  -- No row of q stands before its first.
  pub none_passed : (k : ℕ) (a : Row) → RowOf M q k a → k < from → ⊥
  none_passed k a w l = omega (arith, ((A.exactly k a w.row).1 w.state).0, l)

  -- Every one stands before the end.
  pub all_passed : (k : ℕ) (a : Row) → RowOf M q k a → k < to
  all_passed k a w = ((A.exactly k a w.row).1 w.state).1

-- What holds of each row of q before row number i, and of that row, holds of each before the next.
pub passed_more : {M : Table} {q : ℕ} (P : Row → Type 0) (i : ℕ) → ((k : ℕ) (a : Row) → RowOf M q k a → k < i → P a) → ((a : Row) → RowOf M q i a → P a)
    → (k : ℕ) (a : Row) → RowOf M q k a → k < i + 1 → P a
passed_more {M} {q} P i old new k a w l = go (ltb k i) refl
  where
    go : (b : Bool) → ltb k i ≡ b → P a
    go true e = old k a w (ltb-true k i e)
    go false e =
        let d : k ≡ i = omega (arith, ltb-false k i e, l) in
        new a (subst (λ (n : ℕ). RowOf M q n a) d w)

-- ---- partners
-- A row at a lower index stands before one at a higher index.
rising_before : (rows : List Row) → Rising rows → (i j : ℕ) (r s : Row) → get_elem? rows i ≡ some r → get_elem? rows j ≡ some s → i < j → Before r s
rising_before [] h i j r s a b l = absurd (none-ne-some r a)
rising_before (t ∷ rows) h i zero r s a b l = absurd (omega arith)
rising_before (t ∷ rows) h zero (suc j) r s a b l =
    subst (λ (x : Row). Before x s) (some-injective _ _ a) (every_at (Before t) rows (rising_first t rows h).0 j s b)
rising_before (t ∷ rows) h (suc i) (suc j) r s a b l = rising_before rows (rising_first t rows h).1 i j r s a b (omega arith)

-- Of the rows of one state, that at the lower index has the lower symbol.
symbols_rise : {M : Table} → Rising M.rows → {q i j : ℕ} {r s : Row} → RowOf M q i r → RowOf M q j s → i < j → r.symbol < s.symbol
symbols_rise {M} h {q} {i} {j} {r} {s} a b l =
    ⊎_elim (λ x. absurd (omega (arith, x, a.state, b.state))) (λ x. x.1) (rising_before M.rows h i j r s a.row b.row l)

-- Of the rows of one state, that with the lower symbol stands at the lower index.
index_rises : {M : Table} → Rising M.rows → {q i j : ℕ} {r s : Row} → RowOf M q i r → RowOf M q j s → r.symbol < s.symbol → i < j
index_rises {M} h {q} {i} {j} {r} {s} a b l = go (ltb i j) (ltb j i) refl refl
  where
    go : (x y : Bool) → ltb i j ≡ x → ltb j i ≡ y → i < j
    go true y e f = ltb-true i j e
    go false true e f = absurd (omega (arith, symbols_rise h b a (ltb-true j i f), l))
    go false false e f =
        let d : i ≡ j = omega (arith, ltb-false i j e, ltb-false j i f) in
        let same : r ≡ s = some-injective _ _ (sym a.row ∙ ap (λ (k : ℕ). get_elem? M.rows k) d ∙ b.row) in
        absurd (omega (arith, l, ap (λ (x : Row). x.symbol) same))

-- Row i of state q in M and row j of state r in N have one symbol.
record PartnerRows (M N : Table) (q r i j : ℕ) : Type 0 where
  one : Row
  other : Row
  here : RowOf M q i one
  there : RowOf N r j other
  symbol : one.symbol ≡ other.symbol

-- The same the other way round.
turned : {M N : Table} {q r i j : ℕ} → PartnerRows M N q r i j → PartnerRows N M r q j i
turned p = record { one = p.other; other = p.one; here = p.there; there = p.here; symbol = sym p.symbol }

-- Each row of q has one of r with its symbol.
abbrev Partners : Table → Table → ℕ → ℕ → Type 0
Partners M N q r = (i : ℕ) (a : Row) → RowOf M q i a → (j : ℕ) × PartnerRows M N q r i j

module _ {M N : Table} (up : Rising M.rows) (up' : Rising N.rows) {q r a b c d : ℕ} (A : RulesOf M q a b) (B : RulesOf N r c d) where
  -- A row of r has a number of r's rules.
  row_there : {j : ℕ} {s : Row} → RowOf N r j s → (c ≤ j) × (j < d)
  row_there {j} {s} h = (B.exactly j s h.row).1 h.state

  -- Partners of later rows stand later.
  later : {i j k l : ℕ} → PartnerRows M N q r i j → PartnerRows M N q r k l → i < k → j < l
  later x y h = index_rises up' x.there y.there (omega (arith, symbols_rise up x.here y.here h, x.symbol, y.symbol))

  module _ (P : Partners M N q r) where
    -- The partner of a row with a number of q's rules.
    partner : (i : ℕ) → a ≤ i → i < b → (j : ℕ) × PartnerRows M N q r i j
    partner i l m = let x = row_numbered A i l m in P i x.0 x.1

    -- The partner of row number a + n stands at c + n at least.
    low : (n i j : ℕ) → i ≡ a + n → i < b → PartnerRows M N q r i j → c + n ≤ j
    low zero i j e m p = omega (arith, (row_there p.there).0)
    low (suc n) i j e m p =
        let x = partner (a + n) (omega arith) (omega arith) in
        omega (arith, low n (a + n) x.0 refl (omega arith) x.1, later x.1 p (omega arith))

    -- Where n rows stand behind a row, its partner has n behind it too.
    high : (n i j : ℕ) → i + suc n ≡ b → a ≤ i → PartnerRows M N q r i j → j + suc n ≤ d
    high zero i j e l p = omega (arith, (row_there p.there).1)
    high (suc n) i j e l p =
        let x = partner (i + 1) (omega arith) (omega arith) in
        omega (arith, high n (i + 1) x.0 (omega arith) (omega arith) x.1, later p x.1 (omega arith))

    -- So r has no fewer rules than q.
    no_fewer : b + c ≤ d + a
    no_fewer = go (ltb a b) refl
      where
        go : (x : Bool) → ltb a b ≡ x → b + c ≤ d + a
        go true e =
            let l = ltb-true a b e in
            let x = partner (b - 1) (omega (arith, l)) (omega (arith, l)) in
            omega (arith, l, low (b - 1 - a) (b - 1) x.0 (omega (arith, l)) (omega (arith, l)) x.1, (row_there x.1.there).1)
        go false e = omega (arith, ltb-false a b e, B.ordered, A.ordered)

    -- Where they are as many, each rule of r is a partner.
    all_taken : b + c ≡ d + a → (j : ℕ) (s : Row) → RowOf N r j s → (i : ℕ) × PartnerRows M N q r i j
    all_taken e j s h =
        let n = row_there h in
        let i = a + (j - c) in
        let m : i < b = omega (arith, n.0, n.1, e, B.ordered, A.ordered) in
        let x = partner i (omega arith) m in
        let u = low (j - c) i x.0 refl m x.1 in
        let v = high (b - i - 1) i x.0 (omega (arith, m)) (omega arith) x.1 in
        (i, subst (λ (k : ℕ). PartnerRows M N q r i k) (omega (arith, u, v, n.0, n.1, e, m)) x.1)

-- The rule of each row of q matches that of r for its symbol.
abbrev pub Matched : (ℕ → ℕ → Type 0) → Table → Table → ℕ → ℕ → Type 0
Matched R M N q r = (i : ℕ) (a : Row) → RowOf M q i a → Rules R (find M.rows q a.symbol) (find N.rows r a.symbol)

module _ (R : ℕ → ℕ → Type 0) where
  module _ (M N : Table) (up : Rising M.rows) (up' : Rising N.rows) (q r : ℕ) where
    -- Then each row of q has a partner.
    partners : Matched R M N q r → Partners M N q r
    partners h i a o =
        let x = there_too R a.rule _ _ (row_found up o) (h i a o) in
        let y = find_index N.rows r a.symbol x.0 x.1 in
        (y.index, record { one = a; other = y.row; here = o; there = record { row = y.there; state = y.state }; symbol = sym y.symbol })

    -- Where all rules match, so has each row of r.
    others : Match M N R q r → Partners N M r q
    others h j b o =
        let x = here_too R b.rule _ _ (row_found up' o) (h b.symbol) in
        let y = find_index M.rows q b.symbol x.0 x.1 in
        (y.index, record { one = b; other = y.row; here = o; there = record { row = y.there; state = y.state }; symbol = sym y.symbol })

    -- Where each row of q is matched, so is the rule of q for any symbol.
    found_matches : Matched R M N q r → (f : ℕ) (x : Rule) → find M.rows q f ≡ some x → Rules R (find M.rows q f) (find N.rows r f)
    found_matches h f x d =
        let z = find_index M.rows q f x d in
        subst (λ (g : ℕ). Rules R (find M.rows q g) (find N.rows r g)) z.symbol (h z.index z.row (record { row = z.there; state = z.state }))

    -- Where neither has a rule, their rules match.
    none_match : (f : ℕ) → find M.rows q f ≡ none → find N.rows r f ≡ none → Rules R (find M.rows q f) (find N.rows r f)
    none_match f d e = subst (λ (o : Option Rule). Rules R o (find N.rows r f)) (sym d) (subst (λ (o : Option Rule). Rules R none o) (sym e) tt)

    -- Where each row of q is matched and each row of r is a partner, all rules match.
    matches : Matched R M N q r → ((j : ℕ) (b : Row) → RowOf N r j b → (i : ℕ) × PartnerRows M N q r i j) → Match M N R q r
    matches h t f = go (find M.rows q f) (find N.rows r f) refl refl
      where
        go : (x y : Option Rule) → find M.rows q f ≡ x → find N.rows r f ≡ y → Rules R (find M.rows q f) (find N.rows r f)
        go (some x) y d e = found_matches h f x d
        go none none d e = none_match f d e
        go none (some y) d e =
            let z = find_index N.rows r f y e in
            let p = t z.index z.row (record { row = z.there; state = z.state }) in
            let same : p.1.other ≡ z.row = some-injective _ _ (sym p.1.there.row ∙ z.there) in
            let symbol = p.1.symbol ∙ ap (λ (x : Row). x.symbol) same ∙ z.symbol in
            absurd (find_none M.rows q f p.0 p.1.one d p.1.here.row p.1.here.state symbol)

    -- Where each row of q is matched, all rules match exactly when r has as many rules.
    pub told_ranges : {a b c d : ℕ} → RulesOf M q a b → RulesOf N r c d → Matched R M N q r → Told (Match M N R q r) (eqb (b + c) (d + a))
    told_ranges {a} {b} {c} {d} A B h =
        record {
          if_true = λ e. matches h (all_taken up up' A B (partners h) (eqb-true (b + c) (d + a) e));
          if_false = λ e m. eqb-false (b + c) (d + a) e (omega (arith, no_fewer up up' A B (partners h), no_fewer up' up B A (others m)));
        }

    -- Where all rules match up to the children's states and each row of q is matched, all rules match.
    pub match_rows : Match M N Any q r → Matched R M N q r → Match M N R q r
    match_rows s h f = go (find M.rows q f) (find N.rows r f) refl refl
      where
        go : (x y : Option Rule) → find M.rows q f ≡ x → find N.rows r f ≡ y → Rules R (find M.rows q f) (find N.rows r f)
        go (some x) y d e = found_matches h f x d
        go none none d e = none_match f d e
        go none (some y) d e = absurd (none-ne-some _ (sym d ∙ (here_too Any y _ _ e (s f)).1))
