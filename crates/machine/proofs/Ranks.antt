-- Only ranked trees have words, so states that agree on those agree on all trees.
use mathlib.Core.Path.{◌≡◌, refl, sym, ap, ◌∙◌, subst}
use mathlib.Core.List.{List, [], ◌∷◌}
use mathlib.Core.Option.{Option, none, some, none-ne-some}
use Prim.Native.Nat.{ℕ, suc}
use lib.ListN.{length}
use Rattle.words.specs.Word.{Word, ◌⊕◌}
use Rattle.words.proofs.Cut.{right_of, both_of}
use Rattle.machine.specs.Machine.{Tree, Forest, node, ∅, ◌▸◌, Child, Table, WellMade, word, words, output}
use Rattle.machine.specs.Ranks.{count, Ranked, Rankeds, Fitting}
use Rattle.machine.specs.Same.{Same, Agree}
use Rattle.machine.proofs.Find.{find_fits}
use Rattle.machine.proofs.Word.{word_parts}

-- The rules of a well-made table fit its own list of arities.
well_made_fits : (M : Table) → WellMade M → Fitting M.arities M
well_made_fits M W q f r e =
    let a = find_fits M W q f r e in
    (a.symbol, a.arity)

module _ (arities : List ℕ) (M : Table) (fit : Fitting arities M) where
  mutual
    unfolding word

    -- A tree on which a state has a word is ranked.
    pub word_ranked : (t : Tree) (q : ℕ) (w : Word) → word M q t ≡ some w → Ranked arities t
    word_ranked (node f ts) q w e =
        let a = word_parts M q f ts w e in
        let b = words_ranked ts a.0.rest a.1 a.3 in
        let c = fit q f a.0 a.2 in
        (c.0, b.0 ∙ c.1, b.1)

    -- Trees on which the rest of a rule has a word are ranked, and as many as its children.
    pub words_ranked : (ts : Forest) (cs : List Child) (w : Word) → words M ts cs ≡ some w → (count ts ≡ length cs) × Rankeds arities ts
    words_ranked ∅ [] w e = (refl, tt)
    words_ranked ∅ (c ∷ cs) w e = absurd (none-ne-some w e)
    words_ranked (t ▸ ts) [] w e = absurd (none-ne-some w e)
    words_ranked (t ▸ ts) (c ∷ cs) w e =
        let a = both_of (word M c.state t) (some c.after ⊕ words M ts cs) w e in
        let b = right_of c.after (words M ts cs) a.1 a.3 in
        let h = words_ranked ts cs b.0 b.1 in
        (ap suc h.0, (word_ranked t c.state a.0 a.2, h.1))

-- States that agree on ranked trees agree on all trees.
pub ranked_same : (arities : List ℕ) (M N : Table) → Fitting arities M → Fitting arities N → (q r : ℕ)
    → ((t : Tree) → Ranked arities t → word M q t ≡ word N r t)
    → Same M N q r
ranked_same arities M N fit fit' q r e t = go (word M q t) (word N r t) refl refl
  where
    go : (a b : Option Word) → word M q t ≡ a → word N r t ≡ b → word M q t ≡ word N r t
    go none none i j = i ∙ sym j
    go none (some v) i j = e t (word_ranked arities N fit' t r v j)
    go (some u) b i j = e t (word_ranked arities M fit t q u i)

-- Tables of one symbol list that agree on its ranked trees agree on all trees.
pub ranked_agree : (M N : Table) → WellMade M → WellMade N → M.arities ≡ N.arities
    → ((t : Tree) → Ranked M.arities t → output M t ≡ output N t)
    → Agree M N
ranked_agree M N W W' s e t = go (word M M.start t) (word N N.start t) refl refl
  where
    go : (a b : Option Word) → word M M.start t ≡ a → word N N.start t ≡ b → output M t ≡ output N t
    go none none i j = rw (i, j)
    go none (some v) i j = e t (subst (λ x. Ranked x t) (sym s) (word_ranked N.arities N (well_made_fits N W') t N.start v j))
    go (some u) b i j = e t (word_ranked M.arities M (well_made_fits M W) t M.start u i)
