-- Finding the states that have the empty word, state by state.
use mathlib.Core.Path.{◌≡◌, refl, sym, ap, ◌∙◌, subst}
use mathlib.Core.List.{List}
use mathlib.Core.Logic.{◌⊎◌, inl, inr, ⊎_elim}
use Prim.Native.Nat.{ℕ, ◌+◌, ◌-◌, ◌<◌}
use native.Mathlib.Decide.{ℕ_discrete}
use native.Mathlib.Omega.{arith}
use lib.ListN.{length, get_or, set}
use Rattle.machine.specs.Machine.{Table, RowFits, Rising}
use Rattle.machine.proofs.Find.{every_at}
use Rattle.text.specs.Limits.{states_most}
use Rattle.end_laws.specs.Ends.{unknown, join, rank}
use Rattle.layout.specs.Layout.{Opened}
use Rattle.summary.specs.Codes.{decode, untold, only_empty, K}
use Rattle.summary.specs.declared.Summary.{Summary}
use Rattle.summary.specs.Grown.{Grown}
use Rattle.summary.proofs.Codes.{nothing_known}
use Rattle.summary.proofs.Tests.{blank_alone}
use Rattle.summary.proofs.Growing.{grown_one}
use Rattle.empty_words.specs.Blank.{Blanks, EmptyTold, BlankOf, BlanksMarked, ListedBetween, AllListed}
use Rattle.empty_words.proofs.Empty.{rule_held, blanks_set, kept_told}

-- The empty word in place of nothing is one more that is known.
pub grown_blank : (xs : List Summary) (q : ℕ) → q < length xs → get_or xs q untold ≡ untold → Grown xs (set xs q only_empty) 1
grown_blank xs q l z =
    (grown_one xs q only_empty only_empty 0 1 l (sym (ap (λ x. join x (decode only_empty)) here)) (sym (ap rank blank_alone)) (sym (ap rank here))).1
  where
    here : K xs q ≡ unknown
    here = ap decode z ∙ nothing_known

module _ {M : Table} where
  -- Nothing was done, and nothing was to be done.
  pub marked_none : {tried : ℕ → Type 0} (xs : List Summary) → ((p : ℕ) → p < states_most → tried p → BlankOf M xs p → get_or xs p untold ≡ untold → ⊥)
      → BlanksMarked M tried xs xs 0
  marked_none xs h = record { keeps = λ B. B; same = λ e. refl; rests = λ e. h }

  -- The empty word is kept for a state by one of its rules.
  pub marked_one : {tried : ℕ → Type 0} (xs : List Summary) (q : ℕ) → q < length xs → Rising M.rows → BlankOf M xs q → BlanksMarked M tried xs
      (set xs q only_empty) 1
  marked_one xs q l rising b =
      record { keeps = λ B. blanks_set M xs B q l (rule_held M xs B rising q b); same = λ e. absurd (omega arith); rests = λ e. absurd (omega arith) }

  -- One after the other.
  marked_then : {this that all : ℕ → Type 0} {xs ys zs : List Summary} {k j : ℕ} → BlanksMarked M this xs ys k → BlanksMarked M that ys zs j
      → ((p : ℕ) → all p → this p ⊎ that p) → BlanksMarked M all xs zs (k + j)
  marked_then s t split =
      record {
        keeps = λ B. t.keeps (s.keeps B);
        same = λ e. t.same (omega arith) ∙ s.same (omega arith);
        rests = λ e p h a. ⊎_elim
            (λ i. subst (λ vs. BlankOf M vs p → get_or vs p untold ≡ untold → ⊥) (sym (t.same (omega arith))) (s.rests (omega arith) p h i))
            (λ i. t.rests (omega arith) p h i) (split p a);
      }

  -- No state is tried yet.
  pub between_none : (O : List ℕ) (xs : List Summary) (m : ℕ) → BlanksMarked M (ListedBetween O m m) xs xs 0
  between_none O xs m = marked_none xs (λ p h a. absurd (omega (arith, a.1, a.2)))

  -- One state more.
  pub between_more : (O : List ℕ) {xs ys zs : List Summary} {k j : ℕ} (i m q : ℕ) → 0 < i → q ≡ get_or O (i - 1) 0
      → BlanksMarked M (ListedBetween O i m) xs ys k → BlanksMarked M (λ p. p ≡ q) ys zs j → BlanksMarked M (ListedBetween O (i - 1) m) xs zs (k + j)
  between_more O i m q h e s t = marked_then s t (λ p a. go p a (ℕ_discrete a.0 (i - 1)))
    where
      go : (p : ℕ) (a : ListedBetween O (i - 1) m p) → Dec (a.0 ≡ i - 1) → ListedBetween O i m p ⊎ (p ≡ q)
      go p a (yes d) = inr (sym a.3 ∙ ap (λ l. get_or O l 0) d ∙ sym e)
      go p a (no d) = inl (a.0, omega (arith, a.1), a.2, a.3)

  -- All states are tried.
  pub between_all : (O : List ℕ) {xs ys : List Summary} {k : ℕ} (i m : ℕ) → i ≡ 0 → BlanksMarked M (ListedBetween O i m) xs ys k
      → BlanksMarked M (ListedBetween O 0 m) xs ys k
  between_all O {xs} {ys} {k} i m e s = subst (λ l. BlanksMarked M (ListedBetween O l m) xs ys k) e s

-- Nothing more was found: the empty word is told of every state that has it.
pub marked_told : (M : Table) {F I : List ℕ} (o : Opened F I M) (O : List ℕ) (n : ℕ) → AllListed M O n
    → {xs ys : List Summary} {k : ℕ} → BlanksMarked M (ListedBetween O 0 n) xs ys k → k ≡ 0 → Blanks M ys → EmptyTold M (K ys)
marked_told M o O n listed {ys = ys} t z B = kept_told M ys closed B
  where
    closed : (q : ℕ) → BlankOf M ys q → get_or ys q untold ≡ untold → ⊥
    closed q b =
        let fits = every_at (RowFits M) M.rows o.limited.made.rows b.number b.row b.there in
        let low : q < M.states = omega (arith, fits.state, b.state) in
        let place = listed q low in
        t.rests z q (omega (arith, low, o.limited.states)) (place.0, omega arith, place.1, place.2) b
