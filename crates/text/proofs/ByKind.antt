-- Kinds of frames, case by case: which frame is read at which stage, and 3 for every other kind.
use mathlib.Core.Path.{◌≡◌, refl, ◌∙◌}
use mathlib.Core.List.{List, [], ◌∷◌}
use Prim.Native.Nat.{ℕ, ◌≤◌}
use native.Mathlib.Omega.{arith}
use borrow.Author.Tests.{ne_eqb}
use lib.ListN.{length}
use Rattle.machine.specs.Machine.{Table}
use Rattle.text.specs.Frames.{Stage, symbols, rules, ended, Step, wrong, whole, symbol_frame, start_frame, rule_frame, end_frame, by_kind, step}

-- A frame that is not of the kind is left to the others.
kind_other : (kind k : ℕ) (a other : Step) → (kind ≡ k → ⊥) → by_kind kind k a other ≡ other
kind_other kind k a other h = rw (ne_eqb kind k h, by_kind)

-- An empty line is 2 at any stage.
pub step_empty : (s : Stage) → step s [] ≡ wrong 2
unfolding step
step_empty (symbols []) = refl
step_empty (symbols (k ∷ ks)) = refl
step_empty (rules M) = refl
step_empty (ended M) = refl

module _ (kind : ℕ) (bs : List ℕ) where
  -- Kind 01 while symbols come.
  pub step_01 : (ks : List ℕ) → kind ≡ 1 → step (symbols ks) (kind ∷ bs) ≡ whole (symbol_frame ks bs)
  unfolding step
  step_01 [] e = rw e
  step_01 (k ∷ ks) e = rw e

  -- Kind 02 behind a symbol.
  pub step_02 : (ks : List ℕ) → 1 ≤ length ks → kind ≡ 2 → step (symbols ks) (kind ∷ bs) ≡ whole (start_frame ks bs)
  unfolding step
  step_02 [] h e = absurd (omega arith)
  step_02 (k ∷ ks) h e = rw e

  -- Any other kind before the first symbol.
  pub step_first_other : (kind ≡ 1 → ⊥) → step (symbols []) (kind ∷ bs) ≡ wrong 3
  unfolding step
  step_first_other h = kind_other kind 1 _ _ h

  -- Any other kind behind a symbol.
  pub step_symbols_other : (ks : List ℕ) → (kind ≡ 1 → ⊥) → (kind ≡ 2 → ⊥) → step (symbols ks) (kind ∷ bs) ≡ wrong 3
  unfolding step
  step_symbols_other [] h i = kind_other kind 1 _ _ h
  step_symbols_other (k ∷ ks) h i = kind_other kind 1 _ _ h ∙ kind_other kind 2 _ _ i

  module _ (M : Table) where
    -- Kind 03 behind the initial rule.
    pub step_03 : kind ≡ 3 → step (rules M) (kind ∷ bs) ≡ whole (rule_frame M bs)
    unfolding step
    step_03 e = rw e

    -- Kind 04 behind the initial rule.
    pub step_04 : kind ≡ 4 → step (rules M) (kind ∷ bs) ≡ whole (end_frame M bs)
    unfolding step
    step_04 e = rw e

    -- Any other kind behind the initial rule.
    pub step_rules_other : (kind ≡ 3 → ⊥) → (kind ≡ 4 → ⊥) → step (rules M) (kind ∷ bs) ≡ wrong 3
    unfolding step
    step_rules_other h i = kind_other kind 3 _ _ h ∙ kind_other kind 4 _ _ i

    -- Any kind behind the end.
    pub step_ended : step (ended M) (kind ∷ bs) ≡ wrong 3
    unfolding step
    step_ended = refl
