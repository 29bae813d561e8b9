-- The rows of a table: which rule is found for a state and a symbol, and where it stands.
use mathlib.Core.Path.{◌≡◌, refl, sym, ap, ◌∙◌, subst}
use mathlib.Core.Bool.{Bool, true, false, ◌&&◌}
use mathlib.Core.List.{List, [], ◌∷◌}
use mathlib.Core.Logic.{inl, inr, ⊎_elim}
use mathlib.Core.Option.{Option, none, some, some-injective, none-ne-some}
use Prim.Native.Nat.{ℕ, zero, suc, ◌<◌}
use native.Mathlib.Omega.{arith}
use borrow.Author.Tests.{eqb-true, eqb-false}
use lib.Dec.{eqb}
use lib.ListN.{length, get_elem?}
use Rattle.machine.specs.Machine.{Rule, Row, Table, RowFits, WellMade, find, Every, Before, Rising}

-- ---- rows by index
-- What holds of every row holds of the row at an index.
pub every_at : (P : Row → Type 0) (rows : List Row) → Every P rows → (i : ℕ) (row : Row) → get_elem? rows i ≡ some row → P row
every_at P [] h i row e = absurd (none-ne-some row e)
every_at P (s ∷ rs) h zero row e = subst P (some-injective _ _ e) h.0
every_at P (s ∷ rs) h (suc i) row e = every_at P rs h.1 i row e

-- An index with a row is below their number.
pub index_below : (rows : List Row) (i : ℕ) (row : Row) → get_elem? rows i ≡ some row → i < length rows
index_below [] i row e = absurd (none-ne-some row e)
index_below (s ∷ rs) zero row e = omega arith
index_below (s ∷ rs) (suc i) row e = let h : i < length rs = index_below rs i row e in omega arith

-- An index below their number has a row.
pub index_row : (rows : List Row) (i : ℕ) → i < length rows → (row : Row) × (get_elem? rows i ≡ some row)
index_row [] i l = absurd (omega arith)
index_row (s ∷ rs) zero l = (s, refl)
index_row (s ∷ rs) (suc i) l = index_row rs i (omega arith)

-- ---- finding
-- The row at index i is the one for the state, the symbol and the rule.
pub record FoundRow (rows : List Row) (q f : ℕ) (r : Rule) : Type 0 where
  pub index : ℕ
  pub row : Row
  pub there : get_elem? rows index ≡ some row
  pub state : row.state ≡ q
  pub symbol : row.symbol ≡ f
  pub rule : row.rule ≡ r

-- A rule that is found stands at some index, in a row for that state and symbol.
pub find_index : (rows : List Row) (q f : ℕ) (r : Rule) → find rows q f ≡ some r → FoundRow rows q f r
unfolding find
find_index [] q f r e = absurd (none-ne-some r e)
find_index (s ∷ rs) q f r e = go (eqb s.state q) (eqb s.symbol f) refl refl (λ i. later (find_index rs q f r i)) e
  where
    later : FoundRow rs q f r → FoundRow (s ∷ rs) q f r
    later h = record { index = suc h.index; row = h.row; there = h.there; state = h.state; symbol = h.symbol; rule = h.rule }

    go : (b c : Bool) → eqb s.state q ≡ b → eqb s.symbol f ≡ c → (find rs q f ≡ some r → FoundRow (s ∷ rs) q f r)
        → elim (b && c) as (λ x. Option Rule) [ true ↦ some s.rule | false ↦ find rs q f ] ≡ some r
        → FoundRow (s ∷ rs) q f r
    go true true i j k e' =
        record { index = zero; row = s; there = refl; state = eqb-true _ _ i; symbol = eqb-true _ _ j; rule = some-injective _ _ e' }
    go true false i j k e' = k e'
    go false c i j k e' = k e'

-- What holds of every row holds of the row of every rule that is found.
find_every : (P : Row → Type 0) (rows : List Row) → Every P rows → (q f : ℕ) (r : Rule) → find rows q f ≡ some r
    → (row : Row) × P row × (row.state ≡ q) × (row.symbol ≡ f) × (row.rule ≡ r)
find_every P rows h q f r e =
    let a = find_index rows q f r e in
    (a.row, every_at P rows h a.index a.row a.there, a.state, a.symbol, a.rule)

-- A row of its parts.
row_parts : (row : Row) (q f : ℕ) (r : Rule) → row.state ≡ q → row.symbol ≡ f → row.rule ≡ r → row ≡ record { state = q; symbol = f; rule = r }
row_parts row q f r a b c = λ i. record { state = a i; symbol = b i; rule = c i }

-- What holds of every row holds of every rule that is found, with its state and symbol.
pub find_holds : (P : Row → Type 0) (rows : List Row) → Every P rows → (q f : ℕ) (r : Rule) → find rows q f ≡ some r
    → P (record { state = q; symbol = f; rule = r })
find_holds P rows h q f r e =
    let a = find_every P rows h q f r e in
    subst P (row_parts a.0 q f r a.2 a.3 a.4) a.1

-- A rule that is found in a well-made table fits it, with its state and symbol.
pub find_fits : (M : Table) → WellMade M → (q f : ℕ) (r : Rule) → find M.rows q f ≡ some r → RowFits M (record { state = q; symbol = f; rule = r })
find_fits M W = find_holds (RowFits M) M.rows W.rows

-- ---- rising rows
-- A row that stands before another differs from it in state or symbol.
before_apart : (r s : Row) → Before r s → r.state ≡ s.state → r.symbol ≡ s.symbol → ⊥
before_apart r s b i j = ⊎_elim (λ l. omega arith) (λ l. omega arith) b

-- Standing before is transitive.
before_trans : (r s t : Row) → Before r s → Before s t → Before r t
before_trans r s t (inl a) (inl b) = inl (omega arith)
before_trans r s t (inl a) (inr b) = inl (omega arith)
before_trans r s t (inr a) (inl b) = inl (omega arith)
before_trans r s t (inr a) (inr b) = inr (a.0 ∙ b.0, omega arith)

-- What stands before the first of rising rows stands before each of them.
before_all : (r s : Row) (rs : List Row) → Before r s → Rising (s ∷ rs) → Every (Before r) (s ∷ rs)
before_all r s [] b h = (b, tt)
before_all r s (t ∷ rs) b h = (b, before_all r t rs (before_trans r s t b h.0) h.1)

-- The first of rising rows stands before each later one, and those rise.
pub rising_first : (r : Row) (rs : List Row) → Rising (r ∷ rs) → Every (Before r) rs × Rising rs
rising_first r [] h = (tt, tt)
rising_first r (s ∷ rs) h = (before_all r s rs h.0 h.1, h.1)

-- Two rows of a rising list with one state and symbol are one, at one index.
pub rising_one : (rows : List Row) → Rising rows → (i j : ℕ) (r s : Row)
    → get_elem? rows i ≡ some r → get_elem? rows j ≡ some s → r.state ≡ s.state → r.symbol ≡ s.symbol
    → (i ≡ j) × (r ≡ s)
rising_one [] h i j r s a b p p' = absurd (none-ne-some r a)
rising_one (t ∷ rs) h zero zero r s a b p p' = (refl, some-injective _ _ (sym a ∙ b))
rising_one (t ∷ rs) h zero (suc j) r s a b p p' =
    let k = every_at (Before t) rs (rising_first t rs h).0 j s b in
    let e : t ≡ r = some-injective _ _ a in
    absurd (before_apart t s k (ap (λ x. x.state) e ∙ p) (ap (λ x. x.symbol) e ∙ p'))
rising_one (t ∷ rs) h (suc i) zero r s a b p p' =
    let k = every_at (Before t) rs (rising_first t rs h).0 i r a in
    let e : t ≡ s = some-injective _ _ b in
    absurd (before_apart t r k (ap (λ x. x.state) e ∙ sym p) (ap (λ x. x.symbol) e ∙ sym p'))
rising_one (t ∷ rs) h (suc i) (suc j) r s a b p p' =
    let k = rising_one rs (rising_first t rs h).1 i j r s a b p p' in
    (ap suc k.0, k.1)

-- Where a row for a state and a symbol stands, some rule is found for them.
find_some : (rows : List Row) (q f i : ℕ) (row : Row) → get_elem? rows i ≡ some row → row.state ≡ q → row.symbol ≡ f
    → (r : Rule) × (find rows q f ≡ some r)
unfolding find
find_some [] q f i row e p p' = absurd (none-ne-some row e)
find_some (s ∷ rs) q f zero row e p p' = go (eqb s.state q) (eqb s.symbol f) refl refl
  where
    go : (b c : Bool) → eqb s.state q ≡ b → eqb s.symbol f ≡ c
        → (r : Rule) × (elim (b && c) as (λ x. Option Rule) [ true ↦ some s.rule | false ↦ find rs q f ] ≡ some r)
    go true true k l = (s.rule, refl)
    go true false k l = absurd (eqb-false _ _ l (ap (λ x. x.symbol) (some-injective s row e) ∙ p'))
    go false c k l = absurd (eqb-false _ _ k (ap (λ x. x.state) (some-injective s row e) ∙ p))
find_some (s ∷ rs) q f (suc i) row e p p' = go (eqb s.state q && eqb s.symbol f) (find_some rs q f i row e p p')
  where
    go : (b : Bool) → (r : Rule) × (find rs q f ≡ some r) → (r : Rule) × (elim b as (λ x. Option Rule) [ true ↦ some s.rule | false ↦ find rs q f ] ≡ some r)
    go true h = (s.rule, refl)
    go false h = h

-- Where no rule is found, no row is for the state and the symbol.
pub find_none : (rows : List Row) (q f i : ℕ) (row : Row) → find rows q f ≡ none → get_elem? rows i ≡ some row → row.state ≡ q → row.symbol ≡ f → ⊥
find_none rows q f i row n e p p' =
    let a = find_some rows q f i row e p p' in
    none-ne-some a.0 (sym n ∙ a.1)

-- In rising rows the row at an index is what is found for its state and symbol.
pub find_row : (rows : List Row) → Rising rows → (i : ℕ) (row : Row) → get_elem? rows i ≡ some row → find rows row.state row.symbol ≡ some row.rule
find_row rows h i row e =
    let f = find_some rows row.state row.symbol i row e refl refl in
    let a = find_index rows row.state row.symbol f.0 f.1 in
    let one = rising_one rows h a.index i a.row row a.there e a.state a.symbol in
    f.1 ∙ ap some (sym a.rule ∙ ap (λ x. x.rule) one.1)
