-- Lemma 1 of document 001: states of earliest tables with the same words have the same rules.
use mathlib.Core.Path.{◌≡◌, refl, sym, ◌∙◌, subst}
use mathlib.Core.List.{List, [], ◌∷◌, ◌++◌, append-nil}
use mathlib.Core.Option.{Option, none, some, some-injective, some-ne-none, none-ne-some}
use Prim.Native.Nat.{ℕ, ◌<◌}
use Rattle.words.specs.Word.{Word, ◌⊕◌, Holds, NoPrefix}
use Rattle.words.proofs.Strip.{fix_left, fix_right, split}
use Rattle.machine.specs.Machine.{Forest, node, ∅, ◌▸◌, Child, Rule, Table, WellMade, find, apply, word, words, Each}
use Rattle.machine.specs.Earliest.{tails, Earliest, E2, Trimmed}
use Rattle.machine.specs.Same.{Same, Agree}
use Rattle.machine.specs.Twins.{Rests, Rules, Match}
use Rattle.machine.proofs.Find.{find_fits, find_index}

-- The child states of the rest of a rule are states of the table.
abbrev pub ChildrenInside : Table → List Child → Type 0
ChildrenInside M cs = Each (λ c ds. c.state < M.states) cs

-- E2 for the rest of a rule.
abbrev Lefts : Table → List Child → Type 0
Lefts M cs = Each (λ c ds. NoPrefix (tails M (c ∷ ds))) cs

-- The child states of a rule that is found are states of the table.
pub find_states : (M : Table) → WellMade M → (q f : ℕ) (r : Rule) → find M.rows q f ≡ some r → ChildrenInside M r.rest
find_states M W q f r e = (find_fits M W q f r e).children

-- A rule that is found meets E2.
pub find_lefts : (M : Table) → E2 M → (q f : ℕ) (r : Rule) → find M.rows q f ≡ some r → Lefts M r.rest
find_lefts M E q f r e =
    let a = find_index M.rows q f r e in
    subst (λ x. Lefts M x.rest) a.rule (E.rules a.index a.row a.there)

-- In a trimmed table the rest of a rule has a word on some trees.
alive : (M : Table) → Trimmed M → (cs : List Child) → ChildrenInside M cs → (w : Word) × Holds (tails M cs) w
unfolding words
alive M T [] s = ([], (∅, refl))
alive M T (c ∷ cs) s =
    let h = T.lives c.state s.0 in
    let k = alive M T cs s.1 in
    (h.0 ++ (c.after ++ k.0), (h.1.0 ▸ k.1.0, rw (h.1.1, k.1.1)))

module _ (M N : Table) (W : WellMade M) (W' : WellMade N) (E : Earliest M) (F : Earliest N) where
  -- Rests of rules that write the same behind u and v on all trees: u and v are equal, and the rests match.
  rests : (u v : Word) (cs ds : List Child) → ChildrenInside M cs → ChildrenInside N ds → Lefts M cs → Lefts N ds
      → ((ts : Forest) → some u ⊕ words M ts cs ≡ some v ⊕ words N ts ds)
      → (u ≡ v) × Rests (Same M N) cs ds
  unfolding words
  rests u v [] [] s s' l l' e = (sym (append-nil u) ∙ some-injective _ _ (e ∅) ∙ append-nil v, tt)
  rests u v [] (d ∷ ds) s s' l l' e = absurd (some-ne-none _ (e ∅))
  rests u v (c ∷ cs) [] s s' l l' e = absurd (none-ne-some _ (e ∅))
  rests u v (c ∷ cs) (d ∷ ds) s s' l l' e =
      let w = alive M E.trimmed (c ∷ cs) s in
      let p = E.trimmed.lives c.state s.0 in
      let r = alive M E.trimmed cs s.1 in
      let left = fix_left (λ ts. words M ts (c ∷ cs)) (λ ts. words N ts (d ∷ ds)) u v w.0 l.0 l'.0 w.1 e in
      let parts =
      split (word M c.state) (word N d.state) (λ ts. some c.after ⊕ words M ts cs) (λ ts. some d.after ⊕ words N ts ds)
      p.0 (c.after ++ r.0) (E.e1.suffix c.state s.0) (F.e1.suffix d.state s'.0)
      p.1 (r.1.0, rw r.1.1) (λ t ts. left.1 (t ▸ ts)) in
      let rest = rests c.after d.after cs ds s.1 s'.1 l.1 l'.1 parts.1 in
      (left.0, (parts.0, rest.0, rest.1))

  -- Theorem A: each rule is there in both or in neither, with equal words and children that have the same words again.
  pub agree : (q r : ℕ) → Same M N q r → Match M N (Same M N) q r
  unfolding words
  agree q r e f = go (find M.rows q f) (find N.rows r f) refl refl (λ ts. e (node f ts))
    where
      go : (a b : Option Rule) → find M.rows q f ≡ a → find N.rows r f ≡ b
          → ((ts : Forest) → apply a (λ cs. words M ts cs) ≡ apply b (λ cs. words N ts cs))
          → Rules (Same M N) a b
      go none none i j h = tt
      go none (some b) i j h =
          let k = alive N F.trimmed b.rest (find_states N W' r f b j) in
          none-ne-some (b.first ++ k.0) (h k.1.0 ∙ rw k.1.1)
      go (some a) none i j h =
          let k = alive M E.trimmed a.rest (find_states M W q f a i) in
          none-ne-some (a.first ++ k.0) (sym (h k.1.0) ∙ rw k.1.1)
      go (some a) (some b) i j h =
          rests a.first b.first a.rest b.rest
          (find_states M W q f a i) (find_states N W' r f b j) (find_lefts M E.e2 q f a i) (find_lefts N F.e2 r f b j) h

  -- Tables with the same words have the same initial rule, up to a state with the same words.
  pub agree_start : Agree M N → (M.before ≡ N.before) × (M.after ≡ N.after) × Same M N M.start N.start
  agree_start e =
      let q = M.start in
      let r = N.start in
      let h = E.trimmed.lives q W.start in
      let left =
      fix_left (λ t. word M q t ⊕ some M.after) (λ t. word N r t ⊕ some N.after) M.before N.before (h.0 ++ M.after)
      E.e2.start F.e2.start (h.1.0, rw h.1.1) e in
      let right =
      fix_right (word M q) (word N r) M.after N.after h.0
      (E.e1.suffix q W.start) (F.e1.suffix r W'.start) h.1 left.1 in
      (left.0, right.0, right.1)
