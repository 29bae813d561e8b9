-- Forms worked out: the listing of the specification, and a table whose numbers show the order of the visit.
use mathlib.Core.Path.{◌≡◌, refl, sym, ap, ◌∙◌}
use mathlib.Core.Bool.{true, false, false≢true}
use mathlib.Core.List.{[], ◌∷◌, head-eq_of_cons-eq}
use mathlib.Core.Logic.{◌↔◌}
use mathlib.Core.Option.{some, some-injective, some-ne-none}
use Prim.Native.Nat.{ℕ, ◌-◌, ◌<◌}
use lib.Dec.{eqb}
use borrow.Author.Tests.{eqb-true, eq-eqb}
use Rattle.machine.specs.Machine.{node, ∅, Table, find, word}
use Rattle.machine.specs.Same.{Same}
use Rattle.machine.specs.Form.{Test, Decides, rows_of, child_states, number_in, meet, visit, order, renumbered, form_of, IsForm}
use Rattle.machine.proofs.Small.{row, to, firsts}

-- ---- the listing of the specification
-- The table on the left.
abbrev pub left : Table
left =
    record {
      arities = 2 ∷ 0 ∷ 0 ∷ [];
      states = 3;
      before = [];
      start = 2;
      after = [];
      rows = row 0 1 [] [] ∷ row 0 2 (0x78 ∷ []) [] ∷ row 1 1 [] [] ∷ row 1 2 (0x78 ∷ []) [] ∷ row 2 0 [] (to 0 (0x2c ∷ []) ∷ to 1 [] ∷ []) ∷ [];
    }

-- The table on the right.
abbrev pub right : Table
right =
    record {
      arities = 2 ∷ 0 ∷ 0 ∷ [];
      states = 2;
      before = [];
      start = 0;
      after = [];
      rows = row 0 0 [] (to 1 (0x2c ∷ []) ∷ to 1 [] ∷ []) ∷ row 1 1 [] [] ∷ row 1 2 (0x78 ∷ []) [] ∷ [];
    }

-- States 0 and 1 have the same words.
left_same : Same left left 0 1
unfolding word find
left_same (node f ts) = refl

-- States 0 and 2 do not, and neither do 1 and 2.
left_apart : (Same left left 0 2 → ⊥) × (Same left left 1 2 → ⊥)
unfolding word find
left_apart = (λ e. some-ne-none [] (e (node 1 ∅)), λ e. some-ne-none [] (e (node 1 ∅)))

-- States 0 and 1 are one, and 2 is another.
alike : Test
alike q r = eqb (q - 1) (r - 1)

-- The test's yes for a state and itself, and its no for states that are not the same.
self : (q : ℕ) → (true ≡ true) ↔ Same left left q q
self q = (λ e t. refl, λ e. refl)

other : {A : Type 0} → (A → ⊥) → (false ≡ true) ↔ A
other n = (λ e. absurd (false≢true e), λ a. absurd (n a))

-- The test is right about state p and any other.
abbrev RightOf : ℕ → Type 0
RightOf p = (s : ℕ) → s < 3 → (alike p s ≡ true) ↔ Same left left p s

right_of_0 : RightOf 0
unfolding alike
right_of_0 = firsts (λ s. (alike 0 s ≡ true) ↔ Same left left 0 s) 3 (self 0, ((λ e. left_same, λ e. refl), (other left_apart.0, tt)))

right_of_1 : RightOf 1
unfolding alike
right_of_1 = firsts (λ s. (alike 1 s ≡ true) ↔ Same left left 1 s) 3 ((λ e t. sym (left_same t), λ e. refl), (self 1, (other left_apart.1, tt)))

right_of_2 : RightOf 2
unfolding alike
right_of_2 =
    firsts (λ s. (alike 2 s ≡ true) ↔ Same left left 2 s) 3
    (other (λ e. left_apart.0 (λ t. sym (e t))), (other (λ e. left_apart.1 (λ t. sym (e t))), (self 2, tt)))

-- This decides sameness.
left_decides : Decides alike left
left_decides q r k l = firsts RightOf 3 (right_of_0, (right_of_1, (right_of_2, tt))) q k r l

-- The listing: the form of the table on the left is the table on the right.
pub listing : IsForm left right
unfolding alike form_of order visit meet number_in rows_of child_states renumbered
listing = record { same = alike; decides = left_decides; form = refl }

-- ---- the order of the visit
-- State 0 has the child states 3 and 2 at symbol 0, and 1 at symbol 1; state 3 has 4. At symbol 2 each state writes its own number.
abbrev pub ways : Table
ways =
    record {
      arities = 2 ∷ 1 ∷ 0 ∷ [];
      states = 5;
      before = [];
      start = 0;
      after = [];
      rows =
          row 0 0 [] (to 3 [] ∷ to 2 [] ∷ []) ∷
          row 0 1 [] (to 1 [] ∷ []) ∷
          row 0 2 (0 ∷ []) [] ∷
          row 1 2 (1 ∷ []) [] ∷
          row 2 2 (2 ∷ []) [] ∷
          row 3 1 [] (to 4 [] ∷ []) ∷
          row 3 2 (3 ∷ []) [] ∷
          row 4 2 (4 ∷ []) [] ∷
          [];
    }

-- Left to right, then by symbol, and all child states of a state before those of the next: 0, 3, 2, 1, 4.
abbrev pub numbered : Table
numbered =
    record {
      arities = 2 ∷ 1 ∷ 0 ∷ [];
      states = 5;
      before = [];
      start = 0;
      after = [];
      rows =
          row 0 0 [] (to 1 [] ∷ to 2 [] ∷ []) ∷
          row 0 1 [] (to 3 [] ∷ []) ∷
          row 0 2 (0 ∷ []) [] ∷
          row 1 1 [] (to 4 [] ∷ []) ∷
          row 1 2 (3 ∷ []) [] ∷
          row 2 2 (2 ∷ []) [] ∷
          row 3 2 (1 ∷ []) [] ∷
          row 4 2 (4 ∷ []) [] ∷
          [];
    }

-- Each state has its own number as its word on the lone symbol 2.
ways_own : (q : ℕ) → q < 5 → word ways q (node 2 ∅) ≡ some (q ∷ [])
unfolding word find
ways_own = firsts (λ q. word ways q (node 2 ∅) ≡ some (q ∷ [])) 5 (refl, (refl, (refl, (refl, (refl, tt)))))

-- No two states are the same.
ways_decides : Decides eqb ways
ways_decides q r k l = (
  λ e t. ap (λ p. word ways p t) (eqb-true q r e),
  λ e. eq-eqb q r (head-eq_of_cons-eq (some-injective (q ∷ []) (r ∷ []) (sym (ways_own q k) ∙ e (node 2 ∅) ∙ ways_own r l))),
)

-- The form of the table has the states in the order of the visit.
pub visited : IsForm ways numbered
unfolding form_of order visit meet number_in rows_of child_states renumbered
visited = record { same = eqb; decides = ways_decides; form = refl }
