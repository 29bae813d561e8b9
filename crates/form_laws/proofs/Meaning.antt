-- The form's meaning: number i has the words of the i-th listed state on all trees, and the form has the words of the table.
use mathlib.Core.Path.{◌≡◌, refl, sym, ap, ◌∙◌}
use mathlib.Core.List.{List, [], ◌∷◌}
use mathlib.Core.Option.{Option, none, some, map}
use Prim.Native.Nat.{ℕ, zero, ◌<◌}
use native.Mathlib.Omega.{arith}
use lib.ListN.{length}
use Rattle.words.specs.Word.{Word, ◌⊕◌}
use Rattle.machine.specs.Machine.{Tree, Forest, node, ∅, ◌▸◌, Child, Rule, Row, Table, WellMade, find, apply, word, words}
use Rattle.machine.specs.Same.{Same, Agree}
use Rattle.machine.specs.Form.{Test, Decides, order, rows_of, form_of}
use Rattle.form_laws.specs.Listed.{kids, listed, number_of, numbered_rest, numbered_rule}
use Rattle.form_laws.proofs.Lists.{All, all_map, all_both}
use Rattle.form_laws.proofs.Number.{Known}
use Rattle.form_laws.proofs.Rows.{rows_of_all, all_child_states, kids_inside}
use Rattle.form_laws.proofs.Visit.{same_self}
use Rattle.form_laws.proofs.Order.{InOrder, ChildrenInOrder, order_listed, listed_apart, order_same}
use Rattle.form_laws.proofs.Renumber.{find_children, find_renumbered}

-- A rule by number writes the same where its rest does.
applied : (number : ℕ → ℕ) (o : Option Rule) (k l : List Child → Option Word)
    → ((r : Rule) → o ≡ some r → k (numbered_rest number r.rest) ≡ l r.rest)
    → apply (map (numbered_rule number) o) k ≡ apply o l
applied number none k l h = refl
applied number (some r) k l h = rw (h r refl)

module _ (same : Test) (M : Table) (W : WellMade M) (D : Decides same M) where
  -- Number i has the rules of the i-th listed state, with their child states by number.
  pub form_find : (i f : ℕ) → i < length (order same M)
      → find (form_of same M).rows i f ≡ map (numbered_rule (number_of same M)) (find M.rows (listed same M i) f)
  unfolding form_of
  form_find i f l = find_renumbered (number_of same M) M.rows zero (order same M) i i f l (omega arith)

  -- The child states of a listed state are states that the order knows.
  pub listed_kids : (i : ℕ) → i < length (order same M) → All (InOrder same M) (kids M (listed same M i))
  listed_kids i l =
      let q : ℕ = listed same M i in
      all_both (λ p. p < M.states) (Known same (order same M)) (kids M q)
      (kids_inside M W q) ((order_listed same M W (same_self same M D)).taken i l)

  -- What a row of the table has by P, and because the order knows its child states, the rows of a listed state have.
  pub listed_rows : (P Q : Row → Type 0) → All P M.rows → (i : ℕ) → i < length (order same M)
      → ((r : Row) → P r → ChildrenInOrder same M r → Q r)
      → All Q (rows_of M.rows (listed same M i))
  listed_rows P Q h i l f =
      let rows : List Row = rows_of M.rows (listed same M i) in
      all_map (λ r. P r × ChildrenInOrder same M r) Q (λ r k. f r k.0 k.1) rows
      (all_both P (ChildrenInOrder same M) rows
      (rows_of_all P M.rows (listed same M i) h) (all_child_states (InOrder same M) rows (listed_kids i l)))

  mutual
    unfolding word

    -- Number i has the words of the i-th listed state.
    pub form_word : (t : Tree) (i : ℕ) → i < length (order same M) → word (form_of same M) i t ≡ word M (listed same M i) t
    form_word (node f ts) i l =
        ap (λ o. apply o (λ cs. words (form_of same M) ts cs)) (form_find i f l) ∙
        applied (number_of same M) (find M.rows (listed same M i) f) (λ cs. words (form_of same M) ts cs) (λ cs. words M ts cs)
        (λ r e. form_words ts r.rest (find_children (InOrder same M) M.rows (listed same M i) f r (listed_kids i l) e))

    -- A rest of a rule by number has the words of that rest.
    pub form_words : (ts : Forest) (cs : List Child) → All (λ c. InOrder same M c.state) cs
        → words (form_of same M) ts (numbered_rest (number_of same M) cs) ≡ words M ts cs
    form_words ∅ [] h = refl
    form_words ∅ (c ∷ cs) h = refl
    form_words (t ▸ ts) [] h = refl
    form_words (t ▸ ts) (c ∷ cs) h =
        let first = order_same same M W D c.state h.0.0 h.0.1 t in
        rw (form_word t (number_of same M c.state) h.0.1, first, form_words ts cs h.1)

  -- No two numbers have the same words on all trees.
  pub form_apart : (i j : ℕ) → i < j → j < length (order same M) → Same (form_of same M) (form_of same M) i j → ⊥
  form_apart i j k l e = listed_apart same M W D i j k l (λ t. sym (form_word t i (omega arith)) ∙ e t ∙ form_word t j l)

  -- Number 0 has the words of the initial state.
  pub form_start : (t : Tree) → word (form_of same M) zero t ≡ word M M.start t
  form_start t =
      let v = order_listed same M W (same_self same M D) in
      form_word t zero v.some_state ∙ ap (λ q. word M q t) v.first

  -- The form gives every tree the table's word.
  pub form_agrees : Agree (form_of same M) M
  unfolding form_of
  form_agrees t = ap (λ o. some M.before ⊕ o ⊕ some M.after) (form_start t)
