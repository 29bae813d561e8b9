-- The rules of a state have numbers that stand together, since rows rise.
use mathlib.Core.Path.{◌≡◌, refl, sym, ap, ap₂, ◌∙◌}
use mathlib.Core.Bool.{Bool, true, false}
use mathlib.Core.List.{List, [], ◌∷◌}
use mathlib.Core.Logic.{⊎_elim}
use mathlib.Core.Option.{some, some-injective, none-ne-some}
use Prim.Native.Nat.{ℕ, zero, suc, ◌+◌, ◌<◌, ◌≤◌}
use native.Mathlib.Omega.{arith}
use lib.Dec.{ltb}
use lib.ListN.{length, get_elem?, take, drop}
use lib.Seq.{slice, take-nil, drop-nil}
use borrow.Author.Tests.{lt-ltb, le-ltb, ltb-true, ltb-false, eq-eqb, ne_eqb}
use Rattle.machine.specs.Machine.{Row, Table, RowFits, Every, Before, Rising}
use Rattle.machine.specs.Form.{rows_of}
use Rattle.machine.proofs.Find.{every_at, rising_first}
use Rattle.layout.specs.Layout.{rows_before}
use Rattle.layout.specs.Leaves.{RowAt, RulesOf}

-- A row that stands before another has no greater state.
before_state : (r s : Row) → Before r s → r.state ≤ s.state
before_state r s = ⊎_elim (λ l. omega (arith, l)) (λ e. omega (arith, e.0))

-- One row more, whose state is below q or not.
one_below : (q : ℕ) (x : Row) (rows : List Row) → x.state < q → rows_before q (x ∷ rows) ≡ suc (rows_before q rows)
unfolding rows_before
one_below q x rows h = ap (λ (b : Bool). elim b as (λ c. ℕ) [ true ↦ suc (rows_before q rows) | false ↦ rows_before q rows ]) (lt-ltb x.state q h)

none_below : (q : ℕ) (x : Row) (rows : List Row) → q ≤ x.state → rows_before q (x ∷ rows) ≡ rows_before q rows
unfolding rows_before
none_below q x rows h = ap (λ (b : Bool). elim b as (λ c. ℕ) [ true ↦ suc (rows_before q rows) | false ↦ rows_before q rows ]) (le-ltb x.state q h)

-- Where every row has a state from q on, none is before it.
all_above : (q : ℕ) (x : Row) (rows : List Row) → q ≤ x.state → Every (Before x) rows → rows_before q rows ≡ 0
all_above q x [] h b = unfold rows_before in refl
all_above q x (y ∷ rows) h b = none_below q y rows (omega (arith, h, before_state x y b.0)) ∙ all_above q x rows h b.1

-- One row more makes at most one more.
before_more : (q : ℕ) (x : Row) (rows : List Row) → rows_before q (x ∷ rows) ≤ suc (rows_before q rows)
before_more q x rows = go (ltb x.state q) refl
  where
    go : (b : Bool) → ltb x.state q ≡ b → rows_before q (x ∷ rows) ≤ suc (rows_before q rows)
    go true e = omega (arith, one_below q x rows (ltb-true x.state q e))
    go false e = omega (arith, none_below q x rows (ltb-false x.state q e))

-- There are no more rows before a state than rows.
pub before_most : (q : ℕ) (rows : List Row) → rows_before q rows ≤ length rows
before_most q [] = unfold rows_before in omega arith
before_most q (x ∷ rows) = omega (arith, before_more q x rows, before_most q rows)

-- A row whose state is below q is among the first.
row_below : (q : ℕ) (rows : List Row) → Rising rows → (i : ℕ) (r : Row) → get_elem? rows i ≡ some r → r.state < q → i < rows_before q rows
row_below q [] h i r e l = absurd (none-ne-some r e)
row_below q (x ∷ rows) h zero r e l =
    let d : x ≡ r = some-injective _ _ e in
    let s : x.state ≡ r.state = ap (λ (y : Row). y.state) d in
    omega (arith, one_below q x rows (omega (arith, l, s)))
row_below q (x ∷ rows) h (suc i) r e l =
    let f = rising_first x rows h in
    let b = before_state x r (every_at (Before x) rows f.0 i r e) in
    omega (arith, one_below q x rows (omega (arith, l, b)), row_below q rows f.1 i r e l)

-- A row whose state is q or greater is not.
row_above : (q : ℕ) (rows : List Row) → Rising rows → (i : ℕ) (r : Row) → get_elem? rows i ≡ some r → q ≤ r.state → rows_before q rows ≤ i
row_above q [] h i r e l = absurd (none-ne-some r e)
row_above q (x ∷ rows) h zero r e l =
    let d : x ≡ r = some-injective _ _ e in
    let s : x.state ≡ r.state = ap (λ (y : Row). y.state) d in
    let g : q ≤ x.state = omega (arith, l, s) in
    omega (arith, none_below q x rows g, all_above q x rows g (rising_first x rows h).0)
row_above q (x ∷ rows) h (suc i) r e l = omega (arith, before_more q x rows, row_above q rows (rising_first x rows h).1 i r e l)

-- There are no fewer rows before a greater state.
before_grows : (q : ℕ) (rows : List Row) → rows_before q rows ≤ rows_before (q + 1) rows
before_grows q [] = unfold rows_before in omega arith
before_grows q (x ∷ rows) = go (before_grows q rows) (ltb x.state q) refl
  where
    keeps : rows_before (q + 1) rows ≤ rows_before (q + 1) (x ∷ rows)
    keeps = go' (ltb x.state (q + 1)) refl
      where
        go' : (b : Bool) → ltb x.state (q + 1) ≡ b → rows_before (q + 1) rows ≤ rows_before (q + 1) (x ∷ rows)
        go' true e = omega (arith, one_below (q + 1) x rows (ltb-true x.state (q + 1) e))
        go' false e = omega (arith, none_below (q + 1) x rows (ltb-false x.state (q + 1) e))

    go : rows_before q rows ≤ rows_before (q + 1) rows → (b : Bool) → ltb x.state q ≡ b → rows_before q (x ∷ rows) ≤ rows_before (q + 1) (x ∷ rows)
    go more true e =
        let l = ltb-true x.state q e in
        omega (arith, one_below q x rows l, one_below (q + 1) x rows (omega (arith, l)), more)
    go more false e = omega (arith, none_below q x rows (ltb-false x.state q e), keeps, more)

-- The rows of a first row's state, of another.
rows_here : (q : ℕ) (x : Row) (rows : List Row) → x.state ≡ q → rows_of (x ∷ rows) q ≡ x ∷ rows_of rows q
unfolding rows_of
rows_here q x rows e = ap (λ (b : Bool). elim b as (λ c. List Row) [ true ↦ x ∷ rows_of rows q | false ↦ rows_of rows q ]) (eq-eqb x.state q e)

rows_later : (q : ℕ) (x : Row) (rows : List Row) → (x.state ≡ q → ⊥) → rows_of (x ∷ rows) q ≡ rows_of rows q
unfolding rows_of
rows_later q x rows n = ap (λ (b : Bool). elim b as (λ c. List Row) [ true ↦ x ∷ rows_of rows q | false ↦ rows_of rows q ]) (ne_eqb x.state q n)

-- The rows of state q are those between its first and the next state's.
rows_between : (q : ℕ) (rows : List Row) → Rising rows → (a b : ℕ) → a ≡ rows_before q rows → b ≡ rows_before (q + 1) rows → rows_of rows q ≡ slice a b rows
rows_between q [] h a b ea eb = unfold rows_of in sym (ap (λ (l : List Row). drop a l) (take-nil b) ∙ drop-nil a)
rows_between q (x ∷ rows) h a b ea eb =
    go (λ c d. rows_between q rows (rising_first x rows h).1 c d) (ltb x.state q) refl (ltb x.state (q + 1)) refl
  where
    f : Every (Before x) rows × Rising rows
    f = rising_first x rows h

    go : ((c d : ℕ) → c ≡ rows_before q rows → d ≡ rows_before (q + 1) rows → rows_of rows q ≡ slice c d rows)
        → (s : Bool) → ltb x.state q ≡ s → (t : Bool) → ltb x.state (q + 1) ≡ t → rows_of (x ∷ rows) q ≡ slice a b (x ∷ rows)
    go more true es t et =
        let l = ltb-true x.state q es in
        let ea' : a ≡ suc (rows_before q rows) = ea ∙ one_below q x rows l in
        let eb' : b ≡ suc (rows_before (q + 1) rows) = eb ∙ one_below (q + 1) x rows (omega (arith, l)) in
        rows_later q x rows (λ e. omega (arith, e, l)) ∙ more (rows_before q rows) (rows_before (q + 1) rows) refl refl
        ∙ ap₂ (λ (m : ℕ) (n : ℕ). drop m (take n (x ∷ rows))) (sym ea') (sym eb')
    go more false es true et =
        let g = ltb-false x.state q es in
        let here : x.state ≡ q = omega (arith, g, ltb-true x.state (q + 1) et) in
        let z = all_above q x rows g f.0 in
        let ea' : a ≡ 0 = ea ∙ none_below q x rows g ∙ z in
        let eb' : b ≡ suc (rows_before (q + 1) rows) = eb ∙ one_below (q + 1) x rows (ltb-true x.state (q + 1) et) in
        rows_here q x rows here ∙ ap (λ (l : List Row). x ∷ l) (more 0 (rows_before (q + 1) rows) (sym z) refl)
        ∙ ap₂ (λ (m : ℕ) (n : ℕ). drop m (take n (x ∷ rows))) (sym ea') (sym eb')
    go more false es false et =
        let g = ltb-false x.state (q + 1) et in
        let z = all_above q x rows (omega (arith, g)) f.0 in
        let y = all_above (q + 1) x rows g f.0 in
        let ea' : a ≡ 0 = ea ∙ none_below q x rows (omega (arith, g)) ∙ z in
        let eb' : b ≡ 0 = eb ∙ none_below (q + 1) x rows g ∙ y in
        rows_later q x rows (λ e. omega (arith, e, g)) ∙ more 0 0 (sym z) (sym y)
        ∙ ap₂ (λ (m : ℕ) (n : ℕ). drop m (take n (x ∷ rows))) (sym ea') (sym eb')

-- So the rules of state q are those from its first on to the next state's.
pub range : (M : Table) → Rising M.rows → (q from to : ℕ) → from ≡ rows_before q M.rows → to ≡ rows_before (q + 1) M.rows → RulesOf M q from to
range M h q from to ef et =
    record {
      ordered = omega (arith, ef, et, before_grows q M.rows);
      few = omega (arith, et, before_most (q + 1) M.rows);
      rows = rows_between q M.rows h from to ef et;
      exactly = λ i r e. (inside i r e, outside i r e);
    }
  where
    inside : (i : ℕ) (r : Row) → RowAt M i r → (from ≤ i) × (i < to) → r.state ≡ q
    inside i r e b =
        go (ltb r.state q) refl (ltb r.state (q + 1)) refl
      where
        go : (s : Bool) → ltb r.state q ≡ s → (t : Bool) → ltb r.state (q + 1) ≡ t → r.state ≡ q
        go true es t et' = absurd (omega (arith, row_below q M.rows h i r e (ltb-true r.state q es), ef, b.0))
        go false es true et' = omega (arith, ltb-false r.state q es, ltb-true r.state (q + 1) et')
        go false es false et' = absurd (omega (arith, row_above (q + 1) M.rows h i r e (ltb-false r.state (q + 1) et'), et, b.1))

    outside : (i : ℕ) (r : Row) → RowAt M i r → r.state ≡ q → (from ≤ i) × (i < to)
    outside i r e s =
        (omega (arith, row_above q M.rows h i r e (omega (arith, s)), ef), omega (arith, row_below (q + 1) M.rows h i r e (omega (arith, s)), et))

-- A state that is no row's has no rows.
no_rows : (q : ℕ) (rows : List Row) → Every (λ r. r.state < q) rows → rows_of rows q ≡ []
no_rows q [] h = unfold rows_of in refl
no_rows q (x ∷ rows) h = rows_later q x rows (λ e. omega (arith, e, h.0)) ∙ no_rows q rows h.1

-- A state that the table does not have has no rules.
pub no_range : (M : Table) → Every (RowFits M) M.rows → (q : ℕ) → M.states ≤ q → RulesOf M q 0 0
no_range M f q h =
    record {
      ordered = omega arith;
      few = omega arith;
      rows = no_rows q M.rows (every_below M.rows f);
      exactly = λ i r e. ((λ b. absurd (omega (arith, b.1))), (λ s. absurd (omega (arith, s, h, (every_at (RowFits M) M.rows f i r e).state))));
    }
  where
    every_below : (rows : List Row) → Every (RowFits M) rows → Every (λ r. r.state < q) rows
    every_below [] g = tt
    every_below (r ∷ rows) g = (omega (arith, h, g.0.state), every_below rows g.1)
