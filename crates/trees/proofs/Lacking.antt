-- A state has no word on a ranked tree exactly if some position lacks its rule. Assumes nothing.
use mathlib.Core.Path.{◌≡◌, refl, sym, subst, ◌∙◌}
use mathlib.Core.List.{List, [], ◌∷◌, ◌++◌}
use mathlib.Core.Logic.{◌↔◌}
use mathlib.Core.Option.{Option, none, some}
use Prim.Native.Nat.{ℕ, suc, ◌+◌}
use native.Mathlib.Omega.{arith}
use lib.ListN.{length}
use Rattle.words.specs.Word.{Word, ◌⊕◌}
use Rattle.words.proofs.Cut.{none_right}
use Rattle.machine.specs.Machine.{Tree, Forest, node, ∅, ◌▸◌, Child, Rule, Table, find, apply, word, words, WellMade}
use Rattle.machine.specs.Ranks.{count, Ranked, Rankeds}
use Rattle.trees.specs.Preorder.{preorder}
use Rattle.trees.specs.Lacking.{or_else, rule_or, lacks, lackss}
use Rattle.machine.proofs.Find.{find_fits}

-- If a place lacks its rule there is no word.
abbrev Silent : Option ℕ → Option Word → Type 0
Silent none a = Unit {0}
Silent (some p) a = a ≡ none

-- So it is of a child, its word and the rest.
silent_join : (o i : Option ℕ) (a b : Option Word) (v : Word) → Silent o a → Silent i b → Silent (or_else o i) (a ⊕ some v ⊕ b)
silent_join none none a b v h k = tt
silent_join none (some p) a b v h k = rw k (none_right a)
silent_join (some p) i a b v h k = rw h

-- So it is behind the first word of a rule.
silent_first : (o : Option ℕ) (a : Option Word) (v : Word) → Silent o a → Silent o (some v ⊕ a)
silent_first none a v h = tt
silent_first (some p) a v h = rw h

-- So it is of a rule.
silent_rule : (o : Option Rule) (p : ℕ) (f : List Child → Option Word) (g : List Child → Option ℕ)
    → ((cs : List Child) → Silent (g cs) (f cs)) → Silent (rule_or o p g) (apply o f)
silent_rule none p f g h = refl
silent_rule (some r) p f g h = silent_first (g r.rest) (f r.rest) r.first (h r.rest)

-- So it is of a tree, and of trees with the rest of a rule.
mutual
  unfolding word words lacks lackss

  tree_silent : (t : Tree) (M : Table) (q p : ℕ) → Silent (lacks M q t p) (word M q t)
  tree_silent (node f ts) M q p =
      silent_rule (find M.rows q f) p (λ cs. words M ts cs) (λ cs. lackss M ts cs (suc p)) (λ cs. forest_silent ts M cs (suc p))

  forest_silent : (ts : Forest) (M : Table) (cs : List Child) (p : ℕ) → Silent (lackss M ts cs p) (words M ts cs)
  forest_silent ∅ M cs p = tt
  forest_silent (t ▸ ts) M [] p = tt
  forest_silent (t ▸ ts) M (c ∷ cs) p =
      silent_join (lacks M c.state t p) (lackss M ts cs (p + length (preorder t))) (word M c.state t) (words M ts cs) c.after
      (tree_silent t M c.state p) (forest_silent ts M cs (p + length (preorder t)))

-- If no place lacks its rule there is a word.
abbrev Speaks : Option ℕ → Option Word → Type 0
Speaks none a = (w : Word) × (a ≡ some w)
Speaks (some p) a = Unit {0}

-- So it is of a child, its word and the rest.
speaks_join : (o i : Option ℕ) (a b : Option Word) (v : Word) → Speaks o a → Speaks i b → Speaks (or_else o i) (a ⊕ some v ⊕ b)
speaks_join none none a b v h k = (h.0 ++ (v ++ k.0), rw (h.1, k.1))
speaks_join none (some p) a b v h k = tt
speaks_join (some p) i a b v h k = tt

-- So it is behind the first word of a rule.
speaks_first : (o : Option ℕ) (a : Option Word) (v : Word) → Speaks o a → Speaks o (some v ⊕ a)
speaks_first none a v h = (v ++ h.0, rw h.1)
speaks_first (some p) a v h = tt

-- So it is of a rule.
speaks_rule : (o : Option Rule) (p : ℕ) (f : List Child → Option Word) (g : List Child → Option ℕ)
    → ((r : Rule) → o ≡ some r → Speaks (g r.rest) (f r.rest)) → Speaks (rule_or o p g) (apply o f)
speaks_rule none p f g h = tt
speaks_rule (some r) p f g h = speaks_first (g r.rest) (f r.rest) r.first (h r refl)

module _ (M : Table) (made : WellMade M) where
  -- So it is of a ranked tree, and of ranked trees with as many children of a rule.
  mutual
    unfolding word words lacks lackss

    tree_speaks : (t : Tree) (q p : ℕ) → Ranked M.arities t → Speaks (lacks M q t p) (word M q t)
    tree_speaks (node f ts) q p h =
        speaks_rule (find M.rows q f) p (λ cs. words M ts cs) (λ cs. lackss M ts cs (suc p))
        (λ r e. forest_speaks ts r.rest (suc p) (h.1 ∙ sym (find_fits M made q f r e).arity) h.2)

    forest_speaks : (ts : Forest) (cs : List Child) (p : ℕ) → count ts ≡ length cs → Rankeds M.arities ts
        → Speaks (lackss M ts cs p) (words M ts cs)
    forest_speaks ∅ [] p k h = ([], refl)
    forest_speaks ∅ (c ∷ cs) p k h = absurd (omega arith)
    forest_speaks (t ▸ ts) [] p k h = absurd (omega arith)
    forest_speaks (t ▸ ts) (c ∷ cs) p k h =
        speaks_join (lacks M c.state t p) (lackss M ts cs (p + length (preorder t))) (word M c.state t) (words M ts cs) c.after
        (tree_speaks t c.state p h.0) (forest_speaks ts cs (p + length (preorder t)) (omega arith) h.1)

-- Where a position lacks its rule, there is no word.
lacks_none : (M : Table) (t : Tree) (q p p' : ℕ) → lacks M q t p ≡ some p' → word M q t ≡ none
lacks_none M t q p p' e = subst (λ (o : Option ℕ). Silent o (word M q t)) e (tree_silent t M q p)

-- Where no position of a ranked tree lacks its rule, there is a word.
lacks_word : (M : Table) → WellMade M → (t : Tree) (q p : ℕ) → Ranked M.arities t → lacks M q t p ≡ none
    → (w : Word) × (word M q t ≡ some w)
lacks_word M made t q p h e = subst (λ (o : Option ℕ). Speaks o (word M q t)) e (tree_speaks M made t q p h)

-- A ranked tree has no word exactly if some position lacks its rule.
pub word_none : (M : Table) → WellMade M → (t : Tree) (q p : ℕ) → Ranked M.arities t
    → (word M q t ≡ none) ↔ ((p' : ℕ) × (lacks M q t p ≡ some p'))
word_none M made t q p h = (λ e. go (lacks M q t p) refl e, λ e. lacks_none M t q p e.0 e.1)
  where
    go : (o : Option ℕ) → lacks M q t p ≡ o → word M q t ≡ none → (p' : ℕ) × (lacks M q t p ≡ some p')
    go none i e = let w = (lacks_word M made t q p h i).1 in let z : ◌≡◌ {A = ℕ} 0 1 = cc w in absurd (omega arith)
    go (some p') i e = (p', i)

-- A ranked tree has a word exactly if no position lacks its rule.
pub word_some : (M : Table) → WellMade M → (t : Tree) (q p : ℕ) → Ranked M.arities t
    → ((w : Word) × (word M q t ≡ some w)) ↔ (lacks M q t p ≡ none)
word_some M made t q p h = (λ e. go (lacks M q t p) refl e.0 e.1, λ e. lacks_word M made t q p h e)
  where
    go : (o : Option ℕ) → lacks M q t p ≡ o → (w : Word) → word M q t ≡ some w → lacks M q t p ≡ none
    go none i w e = i
    go (some p') i w e = let n = lacks_none M t q p p' i in let z : ◌≡◌ {A = ℕ} 0 1 = cc in absurd (omega arith)
