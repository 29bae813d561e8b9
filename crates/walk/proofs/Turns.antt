-- The walk from child to child: one is passed, one lacks a rule, none is left. Assumes nothing.
use mathlib.Core.Path.{◌≡◌, refl, sym, ap, ◌∙◌}
use mathlib.Core.List.{List, [], ◌∷◌, ◌++◌, append_assoc}
use mathlib.Core.Option.{Option, none, some}
use Prim.Native.Nat.{ℕ, suc, ◌+◌, ◌<◌, ◌≤◌}
use native.Mathlib.Nat.{add-zero}
use native.Mathlib.Omega.{arith}
use lib.ListN.{length, drop, length-append}
use Rattle.machine.specs.Machine.{Tree, Forest, ∅, ◌▸◌, Child, Rule, Table}
use Rattle.trees.specs.Preorder.{preorder, preorders, Levelss}
use Rattle.trees.specs.Lacking.{or_else, lacks, lackss}
use Rattle.layout.specs.Leaves.{Encodes, state_no}
use Rattle.layout.proofs.Stretches.{further}
use Rattle.std.specs.Prelude.{Result, Ok, Err}
use Rattle.walk.specs.Walked.{TreeStands, walked}
use Rattle.walk.specs.declared.Lack.{Lack}
use Rattle.walk.proofs.LeftToWalk.{LeftToWalk, Walking}

-- A walk that ends lacks nothing.
walked_ends : (o : Option ℕ) (end after : ℕ) → Ok after ≡ walked o end → (o ≡ none) × (after ≡ end)
walked_ends none end after e = (refl, cc)
walked_ends (some p) end after e = cc

-- A walk that lacks tells the place.
walked_lacks : (o : Option ℕ) (end : ℕ) (x : Lack) → Err x ≡ walked o end → o ≡ some x.place
walked_lacks none end x e = cc
walked_lacks (some p) end x e = let i : x ≡ record { place = p } = cc in sym (ap (λ (y : Lack). some y.place) i)

module _ {F I S : List ℕ} {at levels : ℕ} {M : Table} {t : Tree} (stands : TreeStands F I S at levels M t) (below q x j next : ℕ) where
  module _ (c : Child) (cs : List Child) (t₁ : Tree) (ts : Forest) (h : LeftToWalk S at below q M t x j next (c ∷ cs) (t₁ ▸ ts)) where
    -- The first of the trees that are left stands at the place that was reached.
    child_stands : TreeStands F I S next below M t₁
    unfolding preorders Levelss
    child_stands = record {
      opened = stands.opened;
      ranked = h.ranked.0;
      levels = h.levels.0;
      behind = preorders ts ++ h.behind;
      bytes = h.bytes ∙ append_assoc (preorder t₁) (preorders ts) h.behind;
    }

    -- What is lacking is lacking in the first tree, or else in the others.
    child_first : lacks M q t at ≡ or_else (lacks M c.state t₁ next) (lackss M ts cs (next + length (preorder t₁)))
    unfolding lackss
    child_first = h.lacking

    -- Behind a child that lacks nothing, the others are left.
    child_passed : (after : ℕ) → lacks M c.state t₁ next ≡ none → after ≡ next + length (preorder t₁) → LeftToWalk S at below q M t x (j + 1) after cs ts
    unfolding preorders Levelss state_no
    child_passed after e n =
        record {
          number = h.number;
          rule = h.rule;
          holds = h.holds;
          kids = omega (arith, h.kids);
          states = λ k. ap (state_no h.rule.rest) (one_more k) ∙ h.states (suc k);
          trees = omega (arith, h.trees);
          ranked = h.ranked.1;
          levels = h.levels.1;
          behind = h.behind;
          bytes =
              ap (λ (k : ℕ). drop k S) n
              ∙ further S next (preorder t₁) (preorders ts ++ h.behind) (h.bytes ∙ append_assoc (preorder t₁) (preorders ts) h.behind);
          end = omega (arith, n, h.end, length-append (preorder t₁) (preorders ts));
          lacking = child_first ∙ rw (e, n) refl;
        }
      where
        one_more : (k : ℕ) → j + 1 + k ≡ j + suc k
        one_more k = omega arith

  module _ (g : Walking S at below q M t x j next) (many : ℕ) (told_many : (i : ℕ) (r : Rule) → Encodes x i r → many ≡ length r.rest) where
    -- Where no child is left, nothing is lacking, and the tree ends there.
    pub walking_last : many ≤ j → Ok next ≡ walked (lacks M q t at) (at + length (preorder t))
    unfolding lackss preorders
    walking_last z = go g.0 g.1 g.2
      where
        go : (cs : List Child) (ts : Forest) → LeftToWalk S at below q M t x j next cs ts → Ok next ≡ walked (lacks M q t at) (at + length (preorder t))
        go [] ∅ h = let e : at + length (preorder t) ≡ next = omega (arith, h.end) in rw (h.lacking, e)
        go (c ∷ cs) ts h = absurd (omega (arith, h.kids, told_many h.number h.rule h.holds))
        go [] (t₁ ▸ ts) h = absurd (omega (arith, h.trees))

    module _ (due : j < many) (s : ℕ) (told_state : (i : ℕ) (r : Rule) → Encodes x i r → j < length r.rest → s ≡ state_no r.rest j) (w : Result ℕ Lack)
        (told : (t' : Tree) → TreeStands F I S next below M t' → w ≡ walked (lacks M s t' next) (next + length (preorder t'))) where
      -- The state is that of the first of the children that are left.
      child_state : (c : Child) (cs : List Child) (ts : Forest) → LeftToWalk S at below q M t x j next (c ∷ cs) ts → s ≡ c.state
      unfolding state_no
      child_state c cs ts h =
          told_state h.number h.rule h.holds (omega (arith, h.kids)) ∙ ap (state_no h.rule.rest) (sym (add-zero j)) ∙ h.states 0

      -- A child that lacks nothing is passed.
      pub walking_next : (after : ℕ) → w ≡ Ok after → Walking S at below q M t x (j + 1) after
      walking_next after e = go g.0 g.1 g.2
        where
          go : (cs : List Child) (ts : Forest) → LeftToWalk S at below q M t x j next cs ts → Walking S at below q M t x (j + 1) after
          go [] ts h = absurd (omega (arith, h.kids, told_many h.number h.rule h.holds))
          go (c ∷ cs) ∅ h = absurd (omega (arith, h.trees))
          go (c ∷ cs) (t₁ ▸ ts) h =
              let k = child_state c cs (t₁ ▸ ts) h in
              let m = walked_ends (lacks M s t₁ next) (next + length (preorder t₁)) after (sym e ∙ told t₁ (child_stands c cs t₁ ts h)) in
              (cs, ts, child_passed c cs t₁ ts h after (ap (λ (y : ℕ). lacks M y t₁ next) (sym k) ∙ m.0) m.1)

      -- What a child lacks, the whole lacks.
      pub walking_lost : (x : Lack) → w ≡ Err x → Err x ≡ walked (lacks M q t at) (at + length (preorder t))
      walking_lost y e = go g.0 g.1 g.2
        where
          go : (cs : List Child) (ts : Forest) → LeftToWalk S at below q M t x j next cs ts → Err y ≡ walked (lacks M q t at) (at + length (preorder t))
          go [] ts h = absurd (omega (arith, h.kids, told_many h.number h.rule h.holds))
          go (c ∷ cs) ∅ h = absurd (omega (arith, h.trees))
          go (c ∷ cs) (t₁ ▸ ts) h =
              let k = child_state c cs (t₁ ▸ ts) h in
              let m = walked_lacks (lacks M s t₁ next) (next + length (preorder t₁)) y (sym e ∙ told t₁ (child_stands c cs t₁ ts h)) in
              let i = ap (λ (y : ℕ). lacks M y t₁ next) (sym k) ∙ m in
              rw (child_first c cs t₁ ts h, i) refl
