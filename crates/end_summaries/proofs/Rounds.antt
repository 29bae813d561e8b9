-- Rules in turn: what was tried.
use mathlib.Core.Path.{◌≡◌, sym, ap, ◌∙◌, subst}
use mathlib.Core.List.{List}
use mathlib.Core.Logic.{◌⊎◌, inl, inr, ⊎_elim}
use mathlib.Core.Option.{some-injective}
use Prim.Native.Nat.{ℕ, ◌+◌, ◌-◌, ◌≤◌, ◌<◌}
use native.Mathlib.Decide.{ℕ_discrete}
use native.Mathlib.Omega.{arith}
use lib.ListN.{get_or}
use Rattle.machine.specs.Machine.{Row, Table, Rising}
use Rattle.machine.proofs.Find.{find_row, index_row}
use Rattle.end_laws.specs.Ends.{Side, several, at}
use Rattle.end_laws.specs.Meaning.{Witnessed}
use Rattle.end_laws.specs.Companion.{visit}
use Rattle.end_laws.proofs.Known.{visit_witnessed}
use Rattle.layout.specs.Leaves.{RowAt, RulesOf}
use Rattle.summary.specs.Codes.{K, summaries}
use Rattle.summary.specs.declared.Summary.{Summary}
use Rattle.summary.specs.Grown.{Grown}
use Rattle.empty_words.specs.Blank.{EmptyTold}
use Rattle.end_summaries.specs.Steps.{Tried, RulesBetween, OneState, RulesOfListed}
use Rattle.end_summaries.proofs.Sated.{several_rests, visit_told}

module _ {M : Table} {side : Side} where
  -- ---- what was tried
  -- Nothing was done, and nothing was to be tried.
  tried_none : {tried : ℕ → Row → Type 0} (xs : List Summary) → ((i : ℕ) (row : Row) → tried i row → ⊥) → Tried M side tried xs xs 0
  tried_none xs h = record { keeps = λ W. W; tells = λ T. T; rests = λ R e i row there a. absurd (h i row a) }

  -- One after the other.
  tried_then : {this that all : ℕ → Row → Type 0} {xs ys zs : List Summary} {k j : ℕ} → Tried M side this xs ys k → Grown ys zs j → Tried M side that ys zs j
      → ((i : ℕ) (row : Row) → all i row → this i row ⊎ that i row) → Tried M side all xs zs (k + j)
  tried_then t g s split =
      record {
        keeps = λ W. s.keeps (t.keeps W);
        tells = λ T. s.tells (t.tells T);
        rests = λ R e i row there a. ⊎_elim
            (λ h. subst (λ vs. visit side row vs ≡ vs) (sym (g.stays (omega arith))) (t.rests R (omega arith) i row there h))
            (λ h. s.rests (t.keeps R.0, t.tells R.1) (omega arith) i row there h) (split i row a);
      }

  -- What was tried is told by fewer words.
  tried_as : {this that : ℕ → Row → Type 0} {xs ys : List Summary} {k : ℕ} → Tried M side this xs ys k
      → ((i : ℕ) (row : Row) → RowAt M i row → that i row → this i row) → Tried M side that xs ys k
  tried_as t f = record { keeps = t.keeps; tells = t.tells; rests = λ R z i row there a. t.rests R z i row there (f i row there a) }

  -- ---- the rules of a state
  module _ (rising : Rising M.rows) {q from to : ℕ} (rules : RulesOf M q from to) where
    -- One rule.
    rule_tried : {xs ys : List Summary} {k : ℕ} (i : ℕ) → from ≤ i → i < to → Grown xs ys k
        → ((row : Row) → RowAt M i row → row.state ≡ q → summaries ys ≡ visit side row (summaries xs)) → Tried M side (λ j row. j ≡ i) xs ys k
    rule_tried {xs} {ys} {k} i a b g step =
        record {
          keeps = λ W. subst (λ vs. Witnessed M side (at vs)) (sym made) (visit_witnessed M side row (find_row M.rows rising i row there) (summaries xs) W);
          tells = λ T. subst (λ vs. EmptyTold M (at vs)) (sym made) (visit_told M side row (summaries xs) T);
          rests = λ R z j other e d.
              let same : row ≡ other = some-injective row other (sym there ∙ subst (λ n. RowAt M n other) d e) in
              ap (λ (r : Row). visit side r (summaries ys)) (sym same) ∙ ap (visit side row) (g.stays z) ∙ sym made;
        }
      where
        row : Row
        row = (index_row M.rows i (omega (arith, rules.few))).0

        there : RowAt M i row
        there = (index_row M.rows i (omega (arith, rules.few))).1

        made : summaries ys ≡ visit side row (summaries xs)
        made = step row there ((rules.exactly i row there).0 (a, b))

    -- No rule is tried yet.
    pub numbers_none : (xs : List Summary) → Tried M side (RulesBetween to to) xs xs 0
    numbers_none xs = tried_none xs (λ i row a. omega (arith, a.0, a.1))

    -- One rule more, before those that were tried.
    pub numbers_more : {xs ys zs : List Summary} {k j : ℕ} (i : ℕ) → from < i → i ≤ to → Tried M side (RulesBetween i to) xs ys k → Grown ys zs j
        → ((row : Row) → RowAt M (i - 1) row → row.state ≡ q → summaries zs ≡ visit side row (summaries ys))
        → Tried M side (RulesBetween (i - 1) to) xs zs (k + j)
    numbers_more i l h t g step = tried_then t g (rule_tried (i - 1) (omega arith) (omega arith) g step) (λ j row a. go j row a (ℕ_discrete j (i - 1)))
      where
        go : (j : ℕ) (row : Row) → RulesBetween (i - 1) to j row → Dec (j ≡ i - 1) → RulesBetween i to j row ⊎ (j ≡ i - 1)
        go j row a (yes d) = inr d
        go j row a (no d) = inl (omega (arith, a.0), a.1)

    -- All rules of the state are tried.
    pub numbers_all : {xs ys : List Summary} {k : ℕ} (i : ℕ) → i ≤ from → Tried M side (RulesBetween i to) xs ys k → Tried M side (OneState q) xs ys k
    numbers_all i l t = tried_as t (λ j row there a. let w = (rules.exactly j row there).1 a in (omega (arith, w.0), w.1))

  -- No rule is one of a state that the table cannot have.
  pub state_none : (xs : List Summary) (q : ℕ) → ((i : ℕ) (row : Row) → RowAt M i row → row.state < q) → Tried M side (OneState q) xs xs 0
  state_none xs q h = record { keeps = λ W. W; tells = λ T. T; rests = λ R e i row there a. absurd (omega (arith, h i row there, a)) }

  -- A state that has several letters now: all its rules are tried.
  pub several_tried : {tried : ℕ → Row → Type 0} {xs ys : List Summary} {k q : ℕ} → Rising M.rows → Tried M side tried xs ys k → (K ys q).letters ≡ several
      → Tried M side (OneState q) xs ys k
  several_tried {ys = ys} {q = q} rising t h =
      record {
        keeps = t.keeps;
        tells = t.tells;
        rests = λ R z i row there a.
            let many = ap (λ m. (K ys m).letters) a ∙ h in
            several_rests M side ys (t.keeps R.0, t.tells R.1) row (find_row M.rows rising i row there) many;
      }

  -- ---- all states
  -- No state is tried yet.
  pub states_none : (O : List ℕ) (xs : List Summary) (n : ℕ) → Tried M side (RulesOfListed O n n) xs xs 0
  states_none O xs n = tried_none xs (λ i row a. omega (arith, a.1, a.2))

  -- One state more.
  pub states_more : (O : List ℕ) {xs ys zs : List Summary} {k m : ℕ} (j n q : ℕ) → 0 < j → q ≡ get_or O (j - 1) 0
      → Tried M side (RulesOfListed O j n) xs ys k → Grown ys zs m
      → Tried M side (OneState q) ys zs m → Tried M side (RulesOfListed O (j - 1) n) xs zs (k + m)
  states_more O j n q h e t g u = tried_then t g u (λ i row a. go i row a (ℕ_discrete a.0 (j - 1)))
    where
      go : (i : ℕ) (row : Row) (a : RulesOfListed O (j - 1) n i row) → Dec (a.0 ≡ j - 1) → RulesOfListed O j n i row ⊎ OneState q i row
      go i row a (yes d) = inr (sym a.3 ∙ ap (λ m. get_or O m 0) d ∙ sym e)
      go i row a (no d) = inl (a.0, omega (arith, a.1), a.2, a.3)

  -- All states are tried.
  pub states_all : (O : List ℕ) {xs ys : List Summary} {k : ℕ} (j n : ℕ) → j ≡ 0 → Tried M side (RulesOfListed O j n) xs ys k
      → Tried M side (RulesOfListed O 0 n) xs ys k
  states_all O {xs} {ys} {k} j n e t = subst (λ m. Tried M side (RulesOfListed O m n) xs ys k) e t
