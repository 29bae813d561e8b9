-- The rows one by one, and the children of a row: whether a word can be pushed to the left of the state before it.
use mathlib.Core.Path.{◌≡◌, refl, sym, ap, subst, ◌∙◌}
use mathlib.Core.Bool.{Bool, true, false, not, ◌&&◌}
use mathlib.Core.List.{List, [], ◌∷◌}
use mathlib.Core.Option.{Option}
use Prim.Native.Nat.{ℕ, ◌<◌}
use native.Mathlib.Omega.{arith}
use lib.ListN.{length, get_or, get_elem?}
use Rattle.words.specs.Word.{Word}
use Rattle.machine.specs.Machine.{Child, Row, Table}
use Rattle.machine.proofs.Find.{index_row}
use Rattle.end_laws.specs.Ends.{Ends, stuck, free}
use Rattle.end_laws.specs.Companion.{free_row}
use Rattle.layout.specs.Leaves.{RowAt}
use Rattle.summary.specs.Codes.{K}
use Rattle.summary.specs.declared.Summary.{Summary}
use Rattle.word_leaves.proofs.Ahead.{Ahead, NextChild}

-- On the way through the children cs: the word at spot p has m letters, and the children that are left tell what all tell.
pub record ChildrenLeft (F : List ℕ) (xs : List Summary) (p m n : ℕ) (cs : List Child) : Type 0 where
  pub word : Word
  pub long : m ≡ length word
  pub rest : List Child
  pub ahead : Ahead F word p n rest
  pub same : free (K xs) rest ≡ free (K xs) cs

-- What the test b of the next child tells: no word can be pushed behind it, and the others are left, or one can.
pub record ChildTested (F : List ℕ) (xs : List Summary) (p m n : ℕ) (cs : List Child) (b : Bool) : Type 0 where
  pub more : b ≡ false → ChildrenLeft F xs p m n cs
  pub found : b ≡ true → false ≡ free (K xs) cs

module _ (xs : List Summary) where
  -- All children are left.
  pub children_begun : {F : List ℕ} {u : Word} {p m n : ℕ} {cs : List Child} → Ahead F u p n cs → m ≡ length u → ChildrenLeft F xs p m n cs
  children_begun {u = u} {cs = cs} a l = record { word = u; long = l; rest = cs; ahead = a; same = refl }

  module _ {F : List ℕ} {p m n : ℕ} {cs : List Child} (l : ChildrenLeft F xs p m n cs) where
    -- No child is left.
    pub children_done : l.rest ≡ [] → true ≡ free (K xs) cs
    children_done e = sym (ap (free (K xs)) e) ∙ l.same

    module _ {q s j : ℕ} (t : NextChild F q s j l.rest) (b : Bool) (test : b ≡ stuck (K xs q) t.child.after) where
      -- The next child's test, and then the others.
      children_next : not b && free (K xs) t.rest ≡ free (K xs) cs
      children_next =
          ap (λ x. not x && free (K xs) t.rest) (test ∙ ap (λ k. stuck (K xs k) t.child.after) t.state)
          ∙ sym (ap (free (K xs)) t.first) ∙ l.same

      -- If no word can be pushed behind it, it is passed over.
      pub child_tested : {i k : ℕ} → j ≡ i → k ≡ length t.child.after → ChildTested F xs s k i cs b
      child_tested {i} {k} d long =
          let told = λ (x : Bool) (e : b ≡ x). sym (ap (λ x. not x && free (K xs) t.rest) e) ∙ children_next in
          record {
            more = λ e.
                record {
                  word = t.child.after;
                  long = long;
                  rest = t.rest;
                  ahead = subst (λ n. Ahead F t.child.after s n t.rest) d t.ahead;
                  same = told false e;
                };
            found = told true;
          }

-- The word at a spot, by its letter: whether it can be pushed.
pub stuck_none : (x : Ends) (u : Word) (n : ℕ) → n ≡ length u → n ≡ 0 → false ≡ stuck x u
stuck_none x [] n e z = refl
stuck_none x (a ∷ u) n e z = absurd (omega arith)

pub stuck_first : (x : Ends) (u : Word) (n a : ℕ) {b : Bool} → n ≡ length u → (n ≡ 0 → ⊥) → (0 < length u → a ≡ get_or u 0 0)
    → ((w : Word) → b ≡ stuck x (a ∷ w)) → b ≡ stuck x u
stuck_first x [] n a e ne read test = absurd (ne e)
stuck_first x (c ∷ u) n a e ne read test = test u ∙ ap (λ d. stuck x (d ∷ u)) (read (omega arith))

-- The test of the rules by their numbers.
abbrev pub free_at : Table → List Summary → ℕ → Bool
free_at M xs i = free_row (K xs) (get_elem? M.rows i)

-- The test of rule number i, where there is one.
pub row_test : (M : Table) (xs : List Summary) (i : ℕ) (b : Bool) → i < length M.rows → ((row : Row) → RowAt M i row → b ≡ free (K xs) row.rule.rest)
    → b ≡ free_at M xs i
row_test M xs i b l h =
    let r = index_row M.rows i l in
    h r.0 r.1 ∙ sym (ap (λ (o : Option Row). free_row (K xs) o) r.1)
