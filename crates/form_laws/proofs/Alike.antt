-- Two states whose rules match symbol by symbol have rows that are alike in turn.
use mathlib.Core.Path.{◌≡◌, refl, sym, ◌∙◌, subst}
use mathlib.Core.List.{List, [], ◌∷◌}
use mathlib.Core.Logic.{⊎_elim}
use mathlib.Core.Option.{Option, none, some}
use Prim.Native.Nat.{ℕ, ◌<◌}
use native.Mathlib.Decide.{dec_lt, ℕ_discrete}
use native.Mathlib.Omega.{arith}
use Rattle.machine.specs.Machine.{Rule, Row, Before, Rising, find}
use Rattle.machine.specs.Twins.{Rules}
use Rattle.machine.specs.Form.{rows_of}
use Rattle.form_laws.specs.Pairs.{Pairs}
use Rattle.form_laws.proofs.Lists.{All, Ordered, all_map}
use Rattle.form_laws.proofs.Rows.{rising_ordered, rows_of_own, rows_of_past, rows_of_state, rows_of_ordered}
use Rattle.form_laws.proofs.Renumber.{find_first, find_past_state, find_past_symbol}
use Rattle.form_laws.proofs.Lockstep.{RowsLike}

-- A rule is found among the rows of the state as it is among all rows.
rows_of_find : (rows : List Row) (q f : ℕ) → find rows q f ≡ find (rows_of rows q) q f
unfolding rows_of
rows_of_find [] q f = refl
rows_of_find (r ∷ rs) q f =
    elim (ℕ_discrete r.state q) [
      | yes d ↦
          rw (rows_of_own r rs q d)
          (elim (ℕ_discrete r.symbol f) [
            | yes e ↦ find_first r rs q f d e ∙ sym (find_first r (rows_of rs q) q f d e)
            | no n ↦ find_past_symbol r rs q f n ∙ rows_of_find rs q f ∙ sym (find_past_symbol r (rows_of rs q) q f n)
          ])
      | no n ↦ rw (rows_of_past r rs q n) (find_past_state r rs q f n ∙ rows_of_find rs q f)
    ]

-- Rows of greater symbols have no rule for a symbol.
find_above : (rs : List Row) (q f : ℕ) → All (λ r. f < r.symbol) rs → find rs q f ≡ none
unfolding find
find_above [] q f h = refl
find_above (r ∷ rs) q f h = find_past_symbol r rs q f (λ e. omega (arith, h.0)) ∙ find_above rs q f h.1

-- The rows rise by symbol.
abbrev BySymbol : List Row → Type 0
BySymbol rs = Ordered (λ r s. r.symbol < s.symbol) rs

-- A symbol below that of the first of such rows is below all of theirs.
all_above : (x y : Row) (ys : List Row) → x.symbol < y.symbol → BySymbol (y ∷ ys) → All (λ s. x.symbol < s.symbol) (y ∷ ys)
all_above x y ys l o = (l, all_map (λ s. y.symbol < s.symbol) (λ s. x.symbol < s.symbol) (λ s k. omega arith) ys o.0)

module _ (R : ℕ → ℕ → Type 0) where
  -- A rule on the left has one on the right.
  not_left_alone : (r : Rule) (a b : Option Rule) → a ≡ some r → b ≡ none → Rules R a b → ⊥
  not_left_alone r a b e d h = rw (e, d) at h

  -- A rule on the right has one on the left.
  not_right_alone : (r : Rule) (a b : Option Rule) → a ≡ none → b ≡ some r → Rules R a b → ⊥
  not_right_alone r a b e d h = rw (e, d) at h

  module _ (q r : ℕ) where
    -- The rules match for every symbol.
    abbrev Matching : List Row → List Row → Type 0
    Matching xs ys = (f : ℕ) → Rules R (find xs q f) (find ys r f)

    -- Where the rules match for every symbol, the left rows do not begin with a smaller symbol.
    not_sooner : (x y : Row) (xs ys : List Row) → x.state ≡ q → BySymbol (y ∷ ys) → Matching (x ∷ xs) (y ∷ ys) → x.symbol < y.symbol → ⊥
    not_sooner x y xs ys d o h l =
        not_left_alone x.rule (find (x ∷ xs) q x.symbol) (find (y ∷ ys) r x.symbol)
        (find_first x xs q x.symbol d refl) (find_above (y ∷ ys) r x.symbol (all_above x y ys l o)) (h x.symbol)

    -- The right rows do not either.
    not_later : (x y : Row) (xs ys : List Row) → y.state ≡ r → BySymbol (x ∷ xs) → Matching (x ∷ xs) (y ∷ ys) → y.symbol < x.symbol → ⊥
    not_later x y xs ys d o h l =
        not_right_alone y.rule (find (x ∷ xs) q y.symbol) (find (y ∷ ys) r y.symbol)
        (find_above (x ∷ xs) q y.symbol (all_above y x xs l o)) (find_first y ys r y.symbol d refl) (h y.symbol)

    -- Behind two rows of one symbol the rules match again.
    match_rest : (x y : Row) (xs ys : List Row) → BySymbol (x ∷ xs) → BySymbol (y ∷ ys) → x.symbol ≡ y.symbol
        → Matching (x ∷ xs) (y ∷ ys) → Matching xs ys
    match_rest x y xs ys o p e h f =
        elim (ℕ_discrete x.symbol f) [
          | yes d ↦
              let left = find_above xs q f (subst (λ (g : ℕ). All (λ s. g < s.symbol) xs) d o.0) in
              let right = find_above ys r f (subst (λ (g : ℕ). All (λ s. g < s.symbol) ys) (sym e ∙ d) p.0) in
              rw (left, right) tt
          | no n ↦ rw (find_past_symbol x xs q f n, find_past_symbol y ys r f (λ d. n (e ∙ d))) at (h f)
        ]

    -- Rows that rise by symbol and have matching rules for every symbol are alike in turn.
    rows_alike : (xs ys : List Row) → All (λ s. s.state ≡ q) xs → All (λ s. s.state ≡ r) ys → BySymbol xs → BySymbol ys
        → Matching xs ys → Pairs (RowsLike R) xs ys
    rows_alike [] [] c d o p h = tt
    rows_alike [] (y ∷ ys) c d o p h =
        absurd
        (not_right_alone y.rule (find [] q y.symbol) (find (y ∷ ys) r y.symbol)
        (find_above [] q y.symbol tt) (find_first y ys r y.symbol d.0 refl) (h y.symbol))
    rows_alike (x ∷ xs) [] c d o p h =
        absurd
        (not_left_alone x.rule (find (x ∷ xs) q x.symbol) (find [] r x.symbol)
        (find_first x xs q x.symbol c.0 refl) (find_above [] r x.symbol tt) (h x.symbol))
    rows_alike (x ∷ xs) (y ∷ ys) c d o p h =
        elim (dec_lt x.symbol y.symbol) [
          | yes l ↦ absurd (not_sooner x y xs ys c.0 p h l)
          | no m ↦
              elim (dec_lt y.symbol x.symbol) [
                | yes l ↦ absurd (not_later x y xs ys d.0 o h l)
                | no n ↦
                    let e : x.symbol ≡ y.symbol = omega arith in
                    let k : Rules R (some x.rule) (some y.rule) =
                    rw (find_first x xs q x.symbol c.0 refl, find_first y ys r x.symbol d.0 (sym e)) at (h x.symbol) in
                    (record { symbol = e; first = k.0; rest = k.1 }, rows_alike xs ys c.1 d.1 o.1 p.1 (match_rest x y xs ys o p e h))
              ]
        ]

-- The rows of a state rise by symbol.
rows_of_by_symbol : (rows : List Row) → Rising rows → (q : ℕ) → BySymbol (rows_of rows q)
rows_of_by_symbol rows h q = go (rows_of rows q) (rows_of_state rows q) (rows_of_ordered Before rows q (rising_ordered rows h))
  where
    after : (r : Row) → r.state ≡ q → (rs : List Row) → All (λ s. s.state ≡ q) rs → All (Before r) rs → All (λ s. r.symbol < s.symbol) rs
    after r e [] k l = tt
    after r e (s ∷ rs) k l = (⊎_elim (λ m. absurd (omega (arith, k.0))) (λ m. m.1) l.0, after r e rs k.1 l.1)

    go : (rs : List Row) → All (λ r. r.state ≡ q) rs → Ordered Before rs → BySymbol rs
    go [] k l = tt
    go (r ∷ rs) k l = (after r k.0 rs k.1 l.0, go rs k.1 l.1)

-- The rows of two states with matching rules for every symbol are alike in turn.
pub rows_of_alike : (R : ℕ → ℕ → Type 0) (rows rows' : List Row) → Rising rows → Rising rows' → (q r : ℕ)
    → ((f : ℕ) → Rules R (find rows q f) (find rows' r f))
    → Pairs (RowsLike R) (rows_of rows q) (rows_of rows' r)
rows_of_alike R rows rows' h h' q r m =
    rows_alike R q r (rows_of rows q) (rows_of rows' r) (rows_of_state rows q) (rows_of_state rows' r)
    (rows_of_by_symbol rows h q) (rows_of_by_symbol rows' h' r) (λ f. rw (rows_of_find rows q f, rows_of_find rows' r f) at (m f))
