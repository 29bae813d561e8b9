-- Where two symbol lists part, and the order of the comparison's refusals. Assumes nothing.
use mathlib.Core.Path.{◌≡◌, refl, sym, ap, subst, ◌∙◌}
use mathlib.Core.Bool.{Bool, true, false}
use mathlib.Core.List.{List, [], ◌∷◌}
use mathlib.Core.Logic.{◌↔◌}
use mathlib.Core.Option.{Option, none, some, some-injective, none-ne-some}
use Prim.Native.Nat.{ℕ, zero, suc, ◌<◌}
use native.Mathlib.Omega.{arith}
use borrow.Author.Tests.{ltb-true, ltb-false, eqb-true, eqb-false, eq-eqb}
use lib.Dec.{eqb, ltb}
use lib.ListN.{get_elem?}
use Rattle.machine.specs.Machine.{Table}
use Rattle.words.specs.Reply.{no_at}
use Rattle.machine.proofs.Judged.{late_injective}
use Rattle.machine.specs.Verdict.{earliest, late_as, late}
use Rattle.promises.specs.Judgement.{JudgementAnswer}
use Rattle.promises.specs.Comparison.{Comparison, same, different, refusal, refused, later, parting, PartsAt, Forms, ComparisonAnswer}
use Rattle.promises.proofs.Judgement.{judgement_one, not_both}

-- ---- symbol lists

-- Lists part at one index.
parts_one : (xs ys : List ℕ) (i j : ℕ) → PartsAt xs ys i → PartsAt xs ys j → i ≡ j
parts_one xs ys i j h k = go (ltb i j) (ltb j i) refl refl
  where
    go : (a b : Bool) → ltb i j ≡ a → ltb j i ≡ b → i ≡ j
    go true b e f = absurd (h.apart (k.before i (ltb-true i j e)))
    go false true e f = absurd (k.apart (h.before j (ltb-true j i f)))
    go false false e f = omega (arith, ltb-false i j e, ltb-false j i f)

-- Lists that differ at once part at 0.
parts_at_once : (xs ys : List ℕ) (i : ℕ) → (get_elem? xs zero ≡ get_elem? ys zero → ⊥) → some zero ≡ some i → PartsAt xs ys i
parts_at_once xs ys i h e = subst (PartsAt xs ys) (some-injective zero i e) (record { apart = h; before = λ j l. absurd (omega arith) })

-- Lists with one first entry part one index later than their rests.
parts_later : (x y : ℕ) (xs ys : List ℕ) (i : ℕ) → x ≡ y → PartsAt xs ys i → PartsAt (x ∷ xs) (y ∷ ys) (suc i)
parts_later x y xs ys i e h = record { apart = h.apart; before = go }
  where
    go : (j : ℕ) → j < suc i → get_elem? (x ∷ xs) j ≡ get_elem? (y ∷ ys) j
    go zero l = ap (λ (a : ℕ). some a) e
    go (suc j) l = h.before j (omega arith)

-- A later index is one more.
later_some : (o : Option ℕ) (i : ℕ) → later o ≡ some i → (j : ℕ) × (o ≡ some j) × (i ≡ suc j)
later_some none i e = absurd (none-ne-some i e)
later_some (some j) i e = (j, refl, cc)

-- None is later than none only.
later_none : (o : Option ℕ) → later o ≡ none → o ≡ none
later_none none e = refl
later_none (some j) e = absurd (none-ne-some (suc j) (sym e))

-- Lists for which none is found are equal.
parting_equal : (xs ys : List ℕ) → parting xs ys ≡ none → xs ≡ ys
unfolding parting
parting_equal [] [] e = refl
parting_equal [] (y ∷ ys) e = absurd (none-ne-some zero (sym e))
parting_equal (x ∷ xs) [] e = absurd (none-ne-some zero (sym e))
parting_equal (x ∷ xs) (y ∷ ys) e = go (eqb x y) refl (parting_equal xs ys) e
  where
    go : (b : Bool) → eqb x y ≡ b → (parting xs ys ≡ none → xs ≡ ys)
        → ◌≡◌ {A = Option ℕ} (elim b as (λ x. Option ℕ) [ true ↦ later (parting xs ys) | false ↦ some zero ]) none → x ∷ xs ≡ y ∷ ys
    go true k h e' =
        let i = eqb-true x y k in
        let j = h (later_none (parting xs ys) e') in
        cc
    go false k h e' = absurd (none-ne-some zero (sym e'))

-- The index that is found is where the lists part.
parting_parts : (xs ys : List ℕ) (i : ℕ) → parting xs ys ≡ some i → PartsAt xs ys i
unfolding parting
parting_parts [] [] i e = absurd (none-ne-some i e)
parting_parts [] (y ∷ ys) i e = parts_at_once [] (y ∷ ys) i (λ h. none-ne-some y h) e
parting_parts (x ∷ xs) [] i e = parts_at_once (x ∷ xs) [] i (λ h. none-ne-some x (sym h)) e
parting_parts (x ∷ xs) (y ∷ ys) i e = go (eqb x y) refl (parting_parts xs ys) e
  where
    go : (b : Bool) → eqb x y ≡ b → ((j : ℕ) → parting xs ys ≡ some j → PartsAt xs ys j)
        → elim b as (λ x. Option ℕ) [ true ↦ later (parting xs ys) | false ↦ some zero ] ≡ some i → PartsAt (x ∷ xs) (y ∷ ys) i
    go true k h e' =
        let l = later_some (parting xs ys) i e' in
        subst (PartsAt (x ∷ xs) (y ∷ ys)) (sym l.2) (parts_later x y xs ys l.0 (eqb-true x y k) (h l.0 l.1))
    go false k h e' = parts_at_once (x ∷ xs) (y ∷ ys) i (λ z. eqb-false x y k (some-injective x y z)) e'

-- A list does not part from itself.
parting_self : (xs : List ℕ) → parting xs xs ≡ none
unfolding parting
parting_self [] = refl
parting_self (x ∷ xs) = rw (parting, eq-eqb x x refl) (ap later (parting_self xs))

-- None is found exactly if the lists are equal.
pub parting_none : (xs ys : List ℕ) → (parting xs ys ≡ none) ↔ (xs ≡ ys)
parting_none xs ys = (parting_equal xs ys, λ e. rw (← e) (parting_self xs))

-- An index is found exactly if it is the first where the lists differ or one of them has ended.
pub parting_some : (xs ys : List ℕ) (i : ℕ) → (parting xs ys ≡ some i) ↔ PartsAt xs ys i
parting_some xs ys i = (parting_parts xs ys i, λ h. go (parting xs ys) refl h)
  where
    go : (o : Option ℕ) → parting xs ys ≡ o → PartsAt xs ys i → parting xs ys ≡ some i
    go none e h = absurd (h.apart (ap (λ (zs : List ℕ). get_elem? zs i) (parting_equal xs ys e)))
    go (some j) e h = e ∙ ap (λ (a : ℕ). some a) (parts_one xs ys j i (parting_parts xs ys j e) h)

-- ---- the order of refusals

module _ (first second : List ℕ) where
  -- A first table that is refused is told, as 1, whatever the second.
  pub first_late : (n p : ℕ) → JudgementAnswer first (late n p) → (a : Comparison) → ComparisonAnswer first second a ↔ (a ≡ refused 1 n p)
  first_late n p h a = (there a, λ e. rw e h)
    where
      there : (b : Comparison) → ComparisonAnswer first second b → b ≡ refused 1 n p
      there same k = absurd (not_both first n p k.1.one.judged h)
      there different k = absurd (not_both first n p k.2.one.judged h)
      there (refusal zero x) k = absurd (not_both first n p k.2.one.judged h)
      there (refusal (suc zero) x) k = ap (refusal 1) (late_injective x (no_at n p) (judgement_one first (late_as x) (late n p) k h))
      there (refusal (suc (suc zero)) x) k = absurd (not_both first n p k.0 h)
      there (refusal (suc (suc (suc t))) x) k = absurd k

  -- A second table that is refused is told, as 2, where the first is earliest.
  pub second_late : (n p : ℕ) → JudgementAnswer first earliest → JudgementAnswer second (late n p)
      → (a : Comparison) → ComparisonAnswer first second a ↔ (a ≡ refused 2 n p)
  second_late n p g h a = (there a, λ e. rw e (g, h))
    where
      there : (b : Comparison) → ComparisonAnswer first second b → b ≡ refused 2 n p
      there same k = absurd (not_both second n p k.1.two.judged h)
      there different k = absurd (not_both second n p k.2.two.judged h)
      there (refusal zero x) k = absurd (not_both second n p k.2.two.judged h)
      there (refusal (suc zero) x) k = absurd (not_both first x.number x.place g k)
      there (refusal (suc (suc zero)) x) k =
          ap (refusal 2) (late_injective x (no_at n p) (judgement_one second (late_as x) (late n p) k.1 h))
      there (refusal (suc (suc (suc t))) x) k = absurd k

  -- 0 is told with 19 alone, where two forms' symbol lists part.
  pub lists_part : (n p : ℕ) → ComparisonAnswer first second (refused 0 n p)
      ↔ ((n ≡ 19) × ((F : Table) × (G : Table) × Forms first second F G × PartsAt F.arities G.arities p))
  lists_part n p = (
    λ h. (h.3, (h.0, h.1, h.2, (parting_some h.0.arities h.1.arities p).0 h.4)),
    λ h. (h.1.0, h.1.1, h.1.2, h.0, (parting_some h.1.0.arities h.1.1.arities p).1 h.1.3),
  )

  -- Same is told where the two have one form, and different where they have two, with one symbol list.
  pub same_form : ComparisonAnswer first second same ↔ ((F : Table) × (G : Table) × Forms first second F G × (F ≡ G))
  same_form = (λ h. (h.0, h.0, h.1, refl), λ h. (h.1, rw h.3 at h.2))

  pub two_forms : ComparisonAnswer first second different
      ↔ ((F : Table) × (G : Table) × Forms first second F G × (F.arities ≡ G.arities) × (F ≡ G → ⊥))
  two_forms = (
    λ h. (h.0, h.1, h.2, (parting_none h.0.arities h.1.arities).0 h.3, h.4),
    λ h. (h.0, h.1, h.2, (parting_none h.0.arities h.1.arities).1 h.3, h.4),
  )
