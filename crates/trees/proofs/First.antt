-- The place of number 9 is the first position without a rule, the state of each position being that of the way from the root. Assumes nothing.
use mathlib.Core.Path.{◌≡◌, refl, sym, ap, subst, ◌∙◌}
use mathlib.Core.Bool.{Bool, true, false}
use mathlib.Core.List.{List, [], ◌∷◌}
use mathlib.Core.Logic.{◌↔◌}
use mathlib.Core.Option.{Option, none, some, some-injective}
use Prim.Native.Nat.{ℕ, zero, suc, ◌+◌, ◌-◌, ◌<◌}
use native.Mathlib.Nat.{add-zero}
use native.Mathlib.Omega.{arith}
use borrow.Author.Tests.{ltb-true, ltb-false}
use lib.Dec.{ltb}
use lib.ListN.{length, get_or, length-append, get_or-append}
use lib.Seq.{get_or-append-add}
use Rattle.machine.specs.Machine.{Tree, Forest, node, ∅, ◌▸◌, Child, Rule, Table, find, WellMade}
use Rattle.machine.specs.Ranks.{count, Ranked, Rankeds}
use Rattle.machine.proofs.Find.{find_fits}
use Rattle.trees.specs.Preorder.{preorder, preorders}
use Rattle.trees.specs.Lacking.{or_else, rule_or, lacks, lackss}
use Rattle.trees.specs.Standing.{Stands, StandsIn, here, below, first, later, Ruled, Unruled, FirstLacking}

module _ (M : Table) where
  -- ---- what a position is

  mutual
    unfolding preorder preorders

    -- The symbol of a position is the one that is there in preorder, and the position is one of the tree.
    pub stands_symbol : {s f q p : ℕ} {t : Tree} → Stands M s f q t p → (get_or (preorder t) p 0 ≡ f) × (p < length (preorder t))
    stands_symbol (here ts e i j) = rw (e, j) (refl, omega arith)
    stands_symbol (below g ts r i e l h j) = let k = stands_in_symbol h in rw (e, j) (k.0, omega arith)

    -- The same of trees one after the other.
    stands_in_symbol : {s f p : ℕ} {cs : List Child} {ts : Forest} → StandsIn M s f cs ts p
        → (get_or (preorders ts) p 0 ≡ f) × (p < length (preorders ts))
    stands_in_symbol {p = p} (first c more t others e i h) =
        let k = stands_symbol h in
        rw i (get_or-append (preorder t) (preorders others) 0 p k.1 ∙ k.0, omega (arith, length-append (preorder t) (preorders others), k.1))
    stands_in_symbol {p = p} (later c more t others j e i h l) =
        let k = stands_in_symbol h in
        rw (i, l) (get_or-append-add (preorder t) (preorders others) j 0 ∙ k.0, omega (arith, length-append (preorder t) (preorders others), k.1))

  -- A position said in other words.
  stands_in_as : {s f p p' : ℕ} {cs cs' : List Child} {ts ts' : Forest} → cs ≡ cs' → ts ≡ ts' → p ≡ p'
      → StandsIn M s f cs ts p → StandsIn M s f cs' ts' p'
  stands_in_as e i j h = rw (← e, ← i, ← j) h

  mutual
    -- A position is come to in one state and has one symbol.
    pub stands_one : {s f s' f' q p : ℕ} {t : Tree} → Stands M s f q t p → Stands M s' f' q t p → (s ≡ s') × (f ≡ f')
    stands_one (here ts e i j) (here ts' e' i' j') = ((cc), (cc))
    stands_one (here ts e i j) (below g ts' r k e' l h j') = absurd (omega arith)
    stands_one (below g ts r k e l h j) (here ts' e' i' j') = absurd (omega arith)
    stands_one (below g ts r k e l h j) (below g' ts' r' k' e' l' h' j') =
        let x : g' ≡ g = cc in
        let y : ts' ≡ ts = cc in
        let z : some r' ≡ some r = sym l' ∙ ap (find M.rows _) x ∙ l in
        let w : r' ≡ r = some-injective r' r z in
        let v : k' ≡ k = omega arith in
        stands_in_one h (stands_in_as (ap (λ (a : Rule). a.rest) w) y v h')

    stands_in_one : {s f s' f' p : ℕ} {cs : List Child} {ts : Forest} → StandsIn M s f cs ts p → StandsIn M s' f' cs ts p
        → (s ≡ s') × (f ≡ f')
    stands_in_one {s' = s'} {f' = f'} {p = p} (first c more t others e i h) (first c' more' t' others' e' i' h') =
        let x : c' ≡ c = cc in
        let y : t' ≡ t = cc in
        stands_one h (subst (λ (a : Child). Stands M s' f' a.state t p) x (subst (λ (b : Tree). Stands M s' f' c'.state b p) y h'))
    stands_in_one (first c more t others e i h) (later c' more' t' others' j e' i' h' l') =
        let y : t' ≡ t = cc in
        absurd (omega (arith, (stands_symbol h).1, l', ap (λ (a : Tree). length (preorder a)) y))
    stands_in_one (later c more t others j e i h l) (first c' more' t' others' e' i' h') =
        let y : t' ≡ t = cc in
        absurd (omega (arith, (stands_symbol h').1, l, ap (λ (a : Tree). length (preorder a)) y))
    stands_in_one (later c more t others j e i h l) (later c' more' t' others' j' e' i' h' l') =
        let x : more' ≡ more = cc in
        let y : t' ≡ t = cc in
        let z : others' ≡ others = cc in
        let v : j' ≡ j = omega (arith, l, l', ap (λ (a : Tree). length (preorder a)) y) in
        stands_in_one h (stands_in_as x z v h')

  -- No position has a rule and lacks it.
  not_both : {q p : ℕ} {t : Tree} → Ruled M (λ s f. Stands M s f q t p) → Unruled M (λ s f. Stands M s f q t p) → ⊥
  not_both a b =
      let e = stands_one a.stands b.stands in
      let f = a.found in
      let l = b.lacking in
      let z : ◌≡◌ {A = ℕ} 0 1 = cc (e.0, e.1) in
      omega arith

  -- No position before the first without a rule lacks one.
  pub first_none : {q p i : ℕ} {t : Tree} → FirstLacking M q t p → i < p → Unruled M (λ s f. Stands M s f q t i) → ⊥
  first_none {i = i} h l u = not_both (h.before i l) u

  -- Two first positions without a rule are one.
  pub first_one : {q p p' : ℕ} {t : Tree} → FirstLacking M q t p → FirstLacking M q t p' → p ≡ p'
  first_one {p = p} {p' = p'} h k = go (ltb p p') (ltb p' p) refl refl
    where
      go : (a b : Bool) → ltb p p' ≡ a → ltb p' p ≡ b → p ≡ p'
      go true b i j = absurd (first_none k (ltb-true p p' i) h.there)
      go false true i j = absurd (first_none h (ltb-true p' p j) k.there)
      go false false i j = omega (arith, ltb-false p p' i, ltb-false p' p j)

  -- ---- going over the positions

  -- What going over n positions from place b on finds: a rule for each; or the first position without one, and its place.
  abbrev Scan : (ℕ → ℕ → ℕ → Type 0) → ℕ → ℕ → Option ℕ → Type 0
  Scan at n b none = (i : ℕ) → i < n → Ruled M (at i)
  Scan at n b (some p) = (i : ℕ) × (p ≡ b + i) × Unruled M (at i) × ((j : ℕ) → j < i → Ruled M (at j))

  -- A position is one of something larger.
  ruled_in : {at larger : ℕ → ℕ → Type 0} → ((s f : ℕ) → at s f → larger s f) → Ruled M at → Ruled M larger
  ruled_in h a = record { state = a.state; symbol = a.symbol; stands = h _ _ a.stands; rule = a.rule; found = a.found }

  unruled_in : {at larger : ℕ → ℕ → Type 0} → ((s f : ℕ) → at s f → larger s f) → Unruled M at → Unruled M larger
  unruled_in h a = record { state = a.state; symbol = a.symbol; stands = h _ _ a.stands; lacking = a.lacking }

  module _ (one two both : ℕ → ℕ → ℕ → Type 0) (n : ℕ)
      (left : (i s f : ℕ) → one i s f → both i s f) (right : (i s f : ℕ) → two i s f → both (n + i) s f) where
    -- Positions before i of two things in turn have rules if those of the first do, and those of the second that stand before i.
    ruled_join : (i : ℕ) → ((j : ℕ) → j < n → Ruled M (one j)) → ((j : ℕ) → n + j < i → Ruled M (two j))
        → (j : ℕ) → j < i → Ruled M (both j)
    ruled_join i h k j l = go (ltb j n) refl
      where
        go : (b : Bool) → ltb j n ≡ b → Ruled M (both j)
        go true e = ruled_in (left j) (h j (ltb-true j n e))
        go false e =
            let m = ltb-false j n e in
            let x : n + (j - n) ≡ j = omega arith in
            subst (λ (a : ℕ). Ruled M (both a)) x (ruled_in (right (j - n)) (k (j - n) (omega arith)))

    -- Going over the first and then the second finds the first of both.
    scan_join : (o o' : Option ℕ) (m b : ℕ) → Scan one n b o → Scan two m (b + n) o' → Scan both (n + m) b (or_else o o')
    scan_join none none m b h k = ruled_join (n + m) h (λ j l. k j (omega arith))
    scan_join none (some p) m b h k =
        (n + k.0, omega (arith, k.1), unruled_in (right k.0) k.2, ruled_join (n + k.0) h (λ j l. k.3 j (omega arith)))
    scan_join (some p) o' m b h k = (h.0, h.1, unruled_in (left h.0) h.2, λ j l. ruled_in (left j) (h.3 j l))

  module _ (q g : ℕ) (ts : Forest) (r : Rule) (e : find M.rows q g ≡ some r) where
    -- The root has a rule, and each position below it that has one in the trees.
    ruled_below : (i : ℕ) → ((j : ℕ) → suc j < i → Ruled M (λ s f. StandsIn M s f r.rest ts j))
        → (j : ℕ) → j < i → Ruled M (λ s f. Stands M s f q (node g ts) j)
    ruled_below i h zero l = record { state = q; symbol = g; stands = here ts refl refl refl; rule = r; found = e }
    ruled_below i h (suc j) l = ruled_in (λ s f k. below g ts r j refl e k refl) (h j l)

    -- Going over the root, which has a rule, and the trees below it.
    scan_below : (o : Option ℕ) (n b : ℕ) → Scan (λ i s f. StandsIn M s f r.rest ts i) n (suc b) o
        → Scan (λ i s f. Stands M s f q (node g ts) i) (suc n) b o
    scan_below none n b h = ruled_below (suc n) (λ j l. h j (omega arith))
    scan_below (some p) n b h =
        let lacking = unruled_in (λ s f k. below g ts r _ refl e k refl) h.2 in
        (suc h.0, omega (arith, h.1), lacking, ruled_below (suc h.0) (λ j l. h.3 j (omega arith)))

  -- Going over a tree whose root may lack a rule.
  scan_root : (q g : ℕ) (ts : Forest) (o : Option Rule) (n b : ℕ) (rest : List Child → Option ℕ) → find M.rows q g ≡ o
      → ((r : Rule) → o ≡ some r → Scan (λ i s f. StandsIn M s f r.rest ts i) n (suc b) (rest r.rest))
      → Scan (λ i s f. Stands M s f q (node g ts) i) (suc n) b (rule_or o b rest)
  scan_root q g ts none n b rest e h =
      (0, sym (add-zero b), record { state = q; symbol = g; stands = here ts refl refl refl; lacking = e }, λ j l. absurd (omega arith))
  scan_root q g ts (some r) n b rest e h = scan_below q g ts r e (rest r.rest) n b (h r refl)

  -- What going over a whole tree from place 0 on finds.
  abbrev ScannedTree : Tree → ℕ → Option ℕ → Type 0
  ScannedTree t q o = Scan (λ i s f. Stands M s f q t i) (length (preorder t)) 0 o

  module _ (made : WellMade M) where
    mutual
      unfolding lacks lackss preorder preorders

      -- What `lacks` finds in a ranked tree, and in as many ranked trees as a rule has children.
      tree_scan : (t : Tree) (q b : ℕ) → Ranked M.arities t → Scan (λ i s f. Stands M s f q t i) (length (preorder t)) b (lacks M q t b)
      tree_scan (node g ts) q b h =
          scan_root q g ts (find M.rows q g) (length (preorders ts)) b (λ cs. lackss M ts cs (suc b)) refl
          (λ r e. forest_scan ts r.rest (suc b) (h.1 ∙ sym (find_fits M made q g r e).arity) h.2)

      forest_scan : (ts : Forest) (cs : List Child) (b : ℕ) → count ts ≡ length cs → Rankeds M.arities ts
          → Scan (λ i s f. StandsIn M s f cs ts i) (length (preorders ts)) b (lackss M ts cs b)
      forest_scan ∅ cs b k h = λ i l. absurd (omega arith)
      forest_scan (t ▸ ts) [] b k h = absurd (omega arith)
      forest_scan (t ▸ ts) (c ∷ cs) b k h =
          rw (length-append (preorder t) (preorders ts))
          (scan_join (λ i s f. Stands M s f c.state t i) (λ i s f. StandsIn M s f cs ts i) _ (length (preorder t))
          (λ i s f a. first c cs t ts refl refl a) (λ i s f a. later c cs t ts i refl refl a refl)
          (lacks M c.state t b) (lackss M ts cs (b + length (preorder t))) (length (preorders ts)) b
          (tree_scan t c.state b h.0) (forest_scan ts cs (b + length (preorder t)) (omega arith) h.1))

    module _ (t : Tree) (q : ℕ) (ranked : Ranked M.arities t) where
      -- The place that `lacks` finds is the first position without a rule, and that position is found.
      pub lacks_first : (p : ℕ) → (lacks M q t 0 ≡ some p) ↔ FirstLacking M q t p
      lacks_first p =
          (λ e. found p (subst (ScannedTree t q) e (tree_scan t q 0 ranked)), λ h. back h (lacks M q t 0) refl (tree_scan t q 0 ranked))
        where
          found : (p' : ℕ) → ScannedTree t q (some p') → FirstLacking M q t p'
          found p' h = let e : h.0 ≡ p' = omega (arith, h.1) in subst (FirstLacking M q t) e (record { there = h.2; before = h.3 })

          back : FirstLacking M q t p → (o : Option ℕ) → lacks M q t 0 ≡ o → ScannedTree t q o → lacks M q t 0 ≡ some p
          back h none e k = absurd (not_both (k p (stands_symbol h.there.stands).1) h.there)
          back h (some p') e k = e ∙ ap (λ (a : ℕ). some a) (first_one (found p' k) h)

      -- `lacks` finds nothing exactly if every position of the tree has a rule.
      pub lacks_nowhere : (lacks M q t 0 ≡ none) ↔ ((i : ℕ) → i < length (preorder t) → Ruled M (λ s f. Stands M s f q t i))
      lacks_nowhere = (λ e. subst (ScannedTree t q) e (tree_scan t q 0 ranked), λ h. back h (lacks M q t 0) refl)
        where
          back : ((i : ℕ) → i < length (preorder t) → Ruled M (λ s f. Stands M s f q t i))
              → (o : Option ℕ) → lacks M q t 0 ≡ o → lacks M q t 0 ≡ none
          back h none e = e
          back h (some p) e = let k = (lacks_first p).0 e in absurd (not_both (h p (stands_symbol k.there.stands).1) k.there)
