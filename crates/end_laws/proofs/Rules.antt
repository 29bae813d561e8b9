-- The summary of a rule: it is shown where those of the states are, and if no row adds anything then every word of each
-- state fits.
use mathlib.Core.Path.{◌≡◌, refl, sym, subst}
use mathlib.Core.List.{List, [], ◌∷◌}
use mathlib.Core.Logic.{◌⊎◌, ⊎_elim}
use mathlib.Core.Option.{Option, some, none-ne-some}
use Prim.Native.Nat.{ℕ}
use Rattle.words.specs.Word.{Word, ◌⊕◌}
use Rattle.words.proofs.Cut.{right_of, both_of}
use Rattle.machine.specs.Machine.{Tree, Forest, node, ∅, ◌▸◌, Child, Rule, Row, Table, find, word, words}
use Rattle.machine.specs.Earliest.{L, tails}
use Rattle.machine.proofs.Find.{find_index}
use Rattle.machine.proofs.Word.{word_parts, words_nil}
use Rattle.end_laws.specs.Ends.{Side, left, right, end, Ends, blank, alone, join, beside, along, value}
use Rattle.end_laws.specs.Meaning.{Ending, Allows, Fits, Shown, Witnessed, Covering, Closed}
use Rattle.end_laws.proofs.Values.{join_shown, alone_shown, beside_shown, join_allows, alone_allows, beside_fits}

-- The set with one word.
abbrev single : Word → Unit {0} → Option Word
single u i = some u

-- The summary of one word is shown by it.
single_shown : (side : Side) (u : Word) → Shown (Ending side (single u)) (alone (end side u))
single_shown side u = alone_shown (Ending side (single u)) (end side u) (u, (tt, refl), refl)

-- The empty word has no end.
empty_end : (side : Side) → alone (end side []) ≡ blank
empty_end left = refl
empty_end right = refl

-- The summary of what follows a child's state: the word after it, and the children right of it.
abbrev after : Side → (ℕ → Ends) → Child → List Child → Ends
after side K c cs = beside side (alone (end side c.after)) (along side K cs)

module _ (M : Table) (side : Side) (K : ℕ → Ends) where
  module _ (W : Witnessed M side K) where
    -- The summary of a rest is shown by its words.
    pub along_shown : (cs : List Child) → Shown (Ending side (tails M cs)) (along side K cs)
    unfolding along word
    along_shown [] =
        subst (Shown (Ending side (tails M []))) (empty_end side)
        (alone_shown (Ending side (tails M [])) (end side []) ([], (∅, refl), refl))
    along_shown (c ∷ cs) =
        beside_shown side (L M c.state) behind (tails M (c ∷ cs)) (λ u v h k. (h.0 ▸ k.0, cc (h.1, k.1)))
        (K c.state) (after side K c cs) (W c.state) (behind_shown (along_shown cs))
      where
        behind : Forest → Option Word
        behind ts = some c.after ⊕ words M ts cs

        behind_shown : Shown (Ending side (tails M cs)) (along side K cs) → Shown (Ending side behind) (after side K c cs)
        behind_shown s =
            beside_shown side (single c.after) (tails M cs) behind (λ u v h k. (k.0, cc (h.1, k.1)))
            (alone (end side c.after)) (along side K cs) (single_shown side c.after) s

    -- The summary of a rule that is found is shown by words of its state.
    pub value_shown : (q f : ℕ) (r : Rule) → find M.rows q f ≡ some r → Shown (Ending side (L M q)) (value side K r)
    unfolding word
    value_shown q f r e =
        beside_shown side (single r.first) (tails M r.rest) (L M q) (λ u v h k. (node f k.0, rw e (cc (h.1, k.1))))
        (alone (end side r.first)) (along side K r.rest) (single_shown side r.first) (along_shown r.rest)

    -- The summary of a row whose rule is found, joined into its state's, is shown by words of its state.
    row_shown : (row : Row) → find M.rows row.state row.symbol ≡ some row.rule
        → Shown (Ending side (L M row.state)) (join (K row.state) (value side K row.rule))
    row_shown row e =
        join_shown (Ending side (L M row.state)) (K row.state) (value side K row.rule)
        (W row.state) (value_shown row.state row.symbol row.rule e)

    -- Witnessed is kept by a step: one state's summary is joined with that of one of its rows, and the others stay.
    pub step_witnessed : (row : Row) → find M.rows row.state row.symbol ≡ some row.rule → (K' : ℕ → Ends)
        → ((p : ℕ) → (K' p ≡ K p) ⊎ ((p ≡ row.state) × (K' p ≡ join (K row.state) (value side K row.rule))))
        → Witnessed M side K'
    step_witnessed row e K' step p = ⊎_elim same here (step p)
      where
        same : K' p ≡ K p → Shown (Ending side (L M p)) (K' p)
        same j = subst (Shown (Ending side (L M p))) (sym j) (W p)

        here : (p ≡ row.state) × (K' p ≡ join (K row.state) (value side K row.rule)) → Shown (Ending side (L M p)) (K' p)
        here j =
            subst (λ s. Shown (Ending side (L M s)) (K' p)) (sym j.0)
            (subst (Shown (Ending side (L M row.state))) (sym j.1) (row_shown row e))

  -- A word of no children fits.
  none_fits : (ts : Forest) (w : Word) → words M ts [] ≡ some w → Fits side w (along side K [])
  unfolding along
  none_fits ts w e =
      subst (λ x. Fits side x blank) (sym (words_nil M ts w e).1)
      (subst (λ x. Allows x (end side [])) (empty_end side) (alone_allows (end side [])))

  -- A word of a child and the children right of it fits, if the child's word and theirs do.
  rest_fits : (t : Tree) (ts : Forest) (c : Child) (cs : List Child) (w : Word)
      → ((u : Word) → word M c.state t ≡ some u → Fits side u (K c.state))
      → ((v : Word) → words M ts cs ≡ some v → Fits side v (along side K cs))
      → words M (t ▸ ts) (c ∷ cs) ≡ some w → Fits side w (along side K (c ∷ cs))
  unfolding along word
  rest_fits t ts c cs w f g e =
      let a = both_of (word M c.state t) (some c.after ⊕ words M ts cs) w e in
      let b = right_of c.after (words M ts cs) a.1 a.3 in
      let behind_fits =
      subst (λ x. Fits side x (after side K c cs)) b.2
      (beside_fits side c.after b.0 (alone (end side c.after)) (along side K cs) (alone_allows (end side c.after)) (g b.0 b.1)) in
      subst (λ x. Fits side x (beside side (K c.state) (after side K c cs))) a.4
      (beside_fits side a.0 a.1 (K c.state) (after side K c cs) (f a.0 a.2) behind_fits)

  -- Where every word of each state fits, every word of a rest fits.
  pub along_fits : Covering M side K → (ts : Forest) (cs : List Child) (w : Word) → words M ts cs ≡ some w → Fits side w (along side K cs)
  unfolding word
  along_fits C ts [] w e = none_fits ts w e
  along_fits C ∅ (c ∷ cs) w e = absurd (none-ne-some w e)
  along_fits C (t ▸ ts) (c ∷ cs) w e = rest_fits t ts c cs w (λ u i. C c.state u (t, i)) (λ v i. along_fits C ts cs v i) e

  -- Where no row adds anything, what fits a rule that is found fits its state.
  settled_fits : Closed M side K → (q f : ℕ) (r : Rule) (w : Word) → find M.rows q f ≡ some r → Fits side w (value side K r) → Fits side w (K q)
  settled_fits C q f r w e h =
      let a = find_index M.rows q f r e in
      let of_row = C a.index a.row a.there in
      let of_rule = subst (λ x. join (K a.row.state) (value side K x) ≡ K a.row.state) a.rule of_row in
      let of_state : join (K q) (value side K r) ≡ K q = subst (λ p. join (K p) (value side K r) ≡ K p) a.state of_rule in
      subst (λ x. Fits side w x) of_state (join_allows (K q) (value side K r) (end side w) h)

  module _ (C : Closed M side K) where
    mutual
      unfolding word

      -- Where no row adds anything, the word of a state on a tree fits.
      word_fits : (t : Tree) (q : ℕ) (w : Word) → word M q t ≡ some w → Fits side w (K q)
      word_fits (node f ts) q w e =
          let a = word_parts M q f ts w e in
          let u = a.0.first in
          let rule_fits =
          beside_fits side u a.1 (alone (end side u)) (along side K a.0.rest)
          (alone_allows (end side u)) (words_fit ts a.0.rest a.1 a.3) in
          settled_fits C q f a.0 w a.2 (subst (λ x. Fits side x (value side K a.0)) (sym a.4) rule_fits)

      words_fit : (ts : Forest) (cs : List Child) (w : Word) → words M ts cs ≡ some w → Fits side w (along side K cs)
      words_fit ∅ [] w e = none_fits ∅ w e
      words_fit ∅ (c ∷ cs) w e = absurd (none-ne-some w e)
      words_fit (t ▸ ts) [] w e = none_fits (t ▸ ts) w e
      words_fit (t ▸ ts) (c ∷ cs) w e = rest_fits t ts c cs w (λ u i. word_fits t c.state u i) (λ v i. words_fit ts cs v i) e

    -- Closed implies covering: if no row adds anything then every word of each state fits the state's summary.
    pub closed_covering : Covering M side K
    closed_covering q w h = word_fits h.0 q w h.1
