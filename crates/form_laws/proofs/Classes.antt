-- In an earliest table every state is the same as a listed one: the form's states are the classes of the table's states.
use mathlib.Core.Path.{◌≡◌, refl, ◌∙◌, subst}
use mathlib.Core.List.{List, [], ◌∷◌}
use mathlib.Core.Option.{Option, none, some}
use Prim.Native.Nat.{ℕ, ◌<◌}
use lib.ListN.{length}
use Rattle.machine.specs.Machine.{Child, Rule, Table, WellMade, find}
use Rattle.machine.specs.Earliest.{Reached, initial, below, Earliest}
use Rattle.machine.specs.Same.{Same}
use Rattle.machine.specs.Twins.{Rests, Rules}
use Rattle.machine.specs.Form.{Test, Decides, order, form_of}
use Rattle.machine.proofs.Agreement.{agree, find_states}
use Rattle.form_laws.specs.Listed.{listed, number_of}
use Rattle.form_laws.proofs.Lists.{All, all_mem}
use Rattle.form_laws.proofs.Number.{known_at}
use Rattle.form_laws.proofs.Rows.{each_all}
use Rattle.form_laws.proofs.Renumber.{find_children}
use Rattle.form_laws.proofs.Meaning.{listed_kids, form_word}
use Rattle.form_laws.proofs.Visit.{same_self}
use Rattle.form_laws.proofs.Order.{InOrder, listed_inside, order_same}
use Rattle.form_laws.proofs.Reach.{start_numbered}

-- What holds of all child states of a rest, and of any state with the same words, holds of those of a matching rest.
rests_all : (M : Table) (P : ℕ → Type 0) → ((p q : ℕ) → q < M.states → Same M M p q → P p → P q)
    → (cs ds : List Child) → Rests (Same M M) cs ds → All (λ d. d.state < M.states) ds
    → All (λ c. P c.state) cs → All (λ d. P d.state) ds
rests_all M P f [] [] r l h = tt
rests_all M P f [] (d ∷ ds) r l h = absurd r
rests_all M P f (c ∷ cs) [] r l h = absurd r
rests_all M P f (c ∷ cs) (d ∷ ds) r l h = (f c.state d.state l.0 r.0 h.0, rests_all M P f cs ds r.2 l.1 h.1)

module _ (same : Test) (M : Table) (W : WellMade M) (D : Decides same M) where
  -- A state with the words of a known state is known.
  same_numbered : (p q : ℕ) → q < M.states → Same M M p q → InOrder same M p → InOrder same M q
  same_numbered p q l e n =
      let i : ℕ = number_of same M p in
      let inside = listed_inside same M W (same_self same M D) i n.1 in
      (l, known_at same (order same M) q i n.1 ((D (listed same M i) q inside l).1 (λ t. order_same same M W D p n.0 n.1 t ∙ e t)))

  module _ (E : Earliest M) where
    -- The child states of a known state are known.
    numbered_child : (q f : ℕ) (r : Rule) → InOrder same M q → find M.rows q f ≡ some r → All (λ c. InOrder same M c.state) r.rest
    numbered_child q f r n e =
        let match = agree M M W W E E p q (order_same same M W D q n.0 n.1) f in
        go (find M.rows p f) refl (subst (λ (o : Option Rule). Rules (Same M M) (find M.rows p f) o) e match)
      where
        i : ℕ
        i = number_of same M q

        p : ℕ
        p = listed same M i

        go : (a : Option Rule) → find M.rows p f ≡ a → Rules (Same M M) a (some r) → All (λ c. InOrder same M c.state) r.rest
        go none d h = absurd h
        go (some a) d h =
            rests_all M (InOrder same M) same_numbered a.rest r.rest h.1
            (each_all (λ c. c.state < M.states) r.rest (find_states M W q f r e))
            (find_children (InOrder same M) M.rows p f a (listed_kids same M W D i n.1) d)

    -- Every reached state is known.
    reached_numbered : (q : ℕ) → Reached M q → InOrder same M q
    reached_numbered q (initial e) = rw (← e) (start_numbered same M W (same_self same M D))
    reached_numbered q (below {q = p} {r = r} f h e m d) =
        rw (← d) (all_mem (λ c. InOrder same M c.state) r.rest (numbered_child p f r (reached_numbered p h) e) m)

    -- Every state of an earliest table has a number in the form.
    pub earliest_known : (q : ℕ) → q < M.states → number_of same M q < length (order same M)
    earliest_known q l = (reached_numbered q (E.trimmed.reached q l)).1

    -- It has the words of the state that is listed there.
    pub earliest_listed : (q : ℕ) → q < M.states → Same M M (listed same M (number_of same M q)) q
    earliest_listed q l = order_same same M W D q l (earliest_known q l)

    -- Its number in the form has its words.
    pub earliest_number : (q : ℕ) → q < M.states → Same (form_of same M) M (number_of same M q) q
    earliest_number q l t = form_word same M W D t (number_of same M q) (earliest_known q l) ∙ earliest_listed q l t
