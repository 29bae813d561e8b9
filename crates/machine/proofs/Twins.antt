-- In earliest tables, states have the same words exactly when all rounds of comparing their rules find them alike.
use mathlib.Core.Path.{◌≡◌, refl}
use mathlib.Core.Logic.{◌↔◌}
use mathlib.Core.List.{List, [], ◌∷◌}
use mathlib.Core.Option.{Option, none, some}
use Prim.Native.Nat.{ℕ, ◌<◌}
use Rattle.machine.specs.Machine.{Child, Rule, Table, WellMade, find}
use Rattle.machine.specs.Earliest.{Earliest}
use Rattle.machine.specs.Same.{Same}
use Rattle.machine.specs.Twins.{Rests, Rules, Match, Twin}
use Rattle.machine.proofs.Agreement.{ChildrenInside, find_states, agree}
use Rattle.machine.proofs.Kept.{kept_twin, twin_same}

-- States of two earliest tables have the same words exactly when they are twins by every number of rounds.
pub twins : (M N : Table) → WellMade M → WellMade N → Earliest M → Earliest N → (q r : ℕ) → Same M N q r ↔ ((k : ℕ) → Twin M N k q r)
twins M N W W' E F q r = (λ e k. kept_twin M N (Same M N) (agree M N W W' E F) k q r e, twin_same M N q r)

-- Two states of the tables, related by R.
abbrev pub Two : Table → Table → (ℕ → ℕ → Type 0) → ℕ → ℕ → Type 0
Two M N R q r = (q < M.states) × (r < N.states) × R q r

module _ (M N : Table) (R : ℕ → ℕ → Type 0) where
  -- Rests that match and name states of the tables match as such.
  rests_two : (cs ds : List Child) → ChildrenInside M cs → ChildrenInside N ds → Rests R cs ds → Rests (Two M N R) cs ds
  rests_two [] [] s t h = tt
  rests_two [] (d ∷ ds) s t h = h
  rests_two (c ∷ cs) [] s t h = h
  rests_two (c ∷ cs) (d ∷ ds) s t h = ((s.0, t.0, h.0), h.1, rests_two cs ds s.1 t.1 h.2)

  -- Matching rules of well-made tables relate states of the tables.
  pub match_two : WellMade M → WellMade N → (q r : ℕ) → Match M N R q r → Match M N (Two M N R) q r
  match_two W W' q r h f = go (find M.rows q f) (find N.rows r f) refl refl (h f)
    where
      go : (a b : Option Rule) → find M.rows q f ≡ a → find N.rows r f ≡ b → Rules R a b → Rules (Two M N R) a b
      go none none i j g = tt
      go none (some b) i j g = g
      go (some a) none i j g = g
      go (some a) (some b) i j g = (g.0, rests_two a.rest b.rest (find_states M W q f a i) (find_states N W' r f b j) g.1)
