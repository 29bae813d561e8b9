-- What is left of a tree's rule and of the trees below it, at first all of them. Assumes nothing.
use mathlib.Core.Path.{◌≡◌, refl, sym, ap, ◌∙◌}
use mathlib.Core.List.{List, ◌++◌}
use mathlib.Core.Option.{none, some}
use Prim.Native.Nat.{ℕ, suc, ◌+◌, ◌-◌}
use native.Mathlib.Numerals.{add-one}
use native.Mathlib.Nat.{zero-add}
use native.Mathlib.Omega.{arith}
use lib.ListN.{length, get_or, drop}
use Rattle.machine.specs.Machine.{Tree, Forest, node, Child, Rule, Table, find}
use Rattle.machine.specs.Ranks.{count, Rankeds}
use Rattle.machine.proofs.Find.{find_fits}
use Rattle.trees.specs.Preorder.{preorder, preorders, Levelss}
use Rattle.trees.specs.Lacking.{lacks, lackss}
use Rattle.trees.proofs.Levels.{levels_below}
use Rattle.layout.specs.Leaves.{Encodes, Tells, Kept, state_no}
use Rattle.walk.specs.Walked.{TreeStands}
use Rattle.walk.proofs.Roots.{root_byte, below_bytes}

-- The children cs behind the first j are left of the rule that x tells, and the trees ts of the tree t: where they stand, and that the tree lacks
-- what they lack.
pub record LeftToWalk (S : List ℕ) (at below q : ℕ) (M : Table) (t : Tree) (x j next : ℕ) (cs : List Child) (ts : Forest) : Type 0 where
  pub number : ℕ
  pub rule : Rule
  pub holds : Encodes x number rule
  pub kids : j + length cs ≡ length rule.rest
  pub states : (k : ℕ) → state_no rule.rest (j + k) ≡ state_no cs k
  pub trees : count ts ≡ length cs
  pub ranked : Rankeds M.arities ts
  pub levels : Levelss ts below
  pub behind : List ℕ
  pub bytes : drop next S ≡ preorders ts ++ behind
  pub end : next + length (preorders ts) ≡ at + length (preorder t)
  pub lacking : lacks M q t at ≡ lackss M ts cs next

-- Some children and trees are left.
abbrev pub Walking : (S : List ℕ) (at below q : ℕ) (M : Table) (t : Tree) (x j next : ℕ) → Type 0
Walking S at below q M t x j next = (cs : List Child) × (ts : Forest) × LeftToWalk S at below q M t x j next cs ts

-- A tree ends where the trees below it end.
node_end : (at f : ℕ) (ts : Forest) → at + 1 + length (preorders ts) ≡ at + length (preorder (node f ts))
unfolding preorder
node_end at f ts = omega arith

-- Where the root has a rule, the tree lacks what the trees below it lack.
root_rule : (M : Table) (q f at : ℕ) (ts : Forest) (r : Rule) (next : ℕ) → find M.rows q f ≡ some r → next ≡ suc at
    → lacks M q (node f ts) at ≡ lackss M ts r.rest next
unfolding lacks
root_rule M q f at ts r next e n = rw (e, n) refl

-- Where the root has no rule, the root lacks it.
root_lacks : (M : Table) (q f at : ℕ) (ts : Forest) → find M.rows q f ≡ none → lacks M q (node f ts) at ≡ some at
unfolding lacks
root_lacks M q f at ts e = rw e refl

module _ {F I S : List ℕ} {at levels : ℕ} {M : Table} where
  -- Where no rule is kept, the tree's first position lacks it.
  pub missing_lacks : (t : Tree) (q f x : ℕ) → TreeStands F I S at levels M t → f ≡ get_or S at 0 → Kept M q f x → x ≡ 0 → lacks M q t at ≡ some at
  missing_lacks (node g ts) q f x h e k z =
      root_lacks M q g at ts (ap (λ (y : ℕ). find M.rows q y) (sym (e ∙ root_byte g ts h)) ∙ k.none z)

  -- Where a rule is kept, its children and the trees below are left.
  pub walking_first : (t : Tree) (q f x : ℕ) → TreeStands F I S at levels M t → f ≡ get_or S at 0 → Kept M q f x → (x ≡ 0 → ⊥)
      → Walking S at (levels - 1) q M t x 0 (at + 1)
  walking_first (node g ts) q f x h e k z =
      let a : Tells M q f x = k.some z in
      let u = a.rule in
      let i : find M.rows q g ≡ some u = ap (λ (y : ℕ). find M.rows q y) (sym (e ∙ root_byte g ts h)) ∙ a.ruled.found in (
        u.rest,
        ts,
        record {
          number = a.number;
          rule = u;
          holds = a.holds;
          kids = zero-add (length u.rest);
          states = λ n. ap (state_no u.rest) (zero-add n);
          trees = h.ranked.1 ∙ sym (find_fits M h.opened.limited.made q g u i).arity;
          ranked = h.ranked.2;
          levels = levels_below g ts levels h.levels;
          behind = h.behind;
          bytes = below_bytes g ts h;
          end = node_end at g ts;
          lacking = root_rule M q g at ts u (at + 1) i (add-one at);
        },
      )
