-- A planned tree: the spot of its rule's first word, and what its children are to write. Assumes nothing.
use mathlib.Core.Path.{◌≡◌, refl, sym, ap, ◌∙◌}
use mathlib.Core.List.{List, [], ◌∷◌, ◌++◌}
use mathlib.Core.Option.{some, some-injective}
use Prim.Native.Nat.{ℕ, ◌+◌, ◌-◌, ◌/◌, ◌%◌, ◌<◌, ◌≤◌}
use native.Mathlib.Numerals.{add-one}
use native.Mathlib.Omega.{arith}
use lib.ListN.{length, get_or, length-append}
use Rattle.words.specs.Word.{Word}
use Rattle.machine.specs.Machine.{Tree, Forest, node, ◌▸◌, Child, Rule, Table, word, words}
use Rattle.machine.proofs.Word.{word_parts, words_parts, words_nil}
use Rattle.trees.specs.Preorder.{preorder, preorders, Levels, Levelss}
use Rattle.trees.specs.Shape.{tree_most}
use Rattle.trees.proofs.Levels.{no_level, levels_below}
use Rattle.layout.specs.Leaves.{Spot}
use Rattle.walk.specs.Plan.{plan_unit, Planned, Planneds}
use Rattle.word_writer.specs.WordWritten.{Due}

-- The children cs are left, so many: the trees from `next` on, which end at `place`, are planned for them, and they write v.
pub record ChildrenToWrite (F P : List ℕ) (M : Table) (levels place : ℕ) (v : Word) (next left : ℕ) (cs : List Child) : Type 0 where
  pub ts : Forest
  pub kids : length cs ≡ left
  pub planned : Planneds F P M ts cs next
  pub low : Levelss ts levels
  pub writes : words M ts cs ≡ some v
  pub passed : next + length (preorders ts) ≡ place

-- The rule of the tree at `at`: its first word stands at spot p, and its children are left behind it.
pub record NamedRule (F P : List ℕ) (M : Table) (levels place : ℕ) (w : Word) (next left p : ℕ) : Type 0 where
  pub u : Word
  pub v : Word
  pub cs : List Child
  pub spot : Spot F u cs p
  pub rest : ChildrenToWrite F P M levels place v next left cs
  pub whole : w ≡ u ++ v

-- With no level allowed there is no tree.
pub no_levels : (F P : List ℕ) (at levels n : ℕ) (M : Table) (q : ℕ) (t : Tree) (w : Word) → levels ≡ 0 → Due F P at levels n M q t w → ⊥
no_levels F P at levels n M q t w e d = no_level t levels e d.levels

-- Past the end of the plan there is no tree.
pub no_place : (F P : List ℕ) (at levels n : ℕ) (M : Table) (q : ℕ) (t : Tree) (w : Word) → tree_most ≤ at → Due F P at levels n M q t w → ⊥
unfolding preorder
no_place F P at levels n M q (node f ts) w l d = omega (arith, d.inside)

-- The plan names the tree's rule.
pub named_rule : (F P : List ℕ) (at levels n : ℕ) (M : Table) (q : ℕ) (t : Tree) (w : Word) → Due F P at levels n M q t w
    → NamedRule F P M (levels - 1) (at + length (preorder t)) w (at + 1) (get_or P at 0 / plan_unit) (get_or P at 0 % plan_unit)
unfolding Planned preorder Levels
named_rule F P at levels n M q (node f ts) w d =
    let a = word_parts M q f ts w d.word in
    let r = d.planned.0 in
    let s : r ≡ a.0 = some-injective _ _ (sym d.planned.1 ∙ a.2) in
    let h = d.planned.2 in
    record {
      u = r.first;
      v = a.1;
      cs = r.rest;
      spot = h.there;
      rest = record {
        ts = ts;
        kids = sym h.kids;
        planned = rw add-one d.planned.3;
        low = levels_below f ts levels d.levels;
        writes = ap (λ (z : Rule). words M ts z.rest) s ∙ a.3;
        passed = omega arith;
      };
      whole = a.4 ∙ ap (λ (z : Rule). z.first ++ a.1) (sym s);
    }

-- The child that is next of the children cs: its tree t, the word x that its state writes on t, the children behind it, and what they write.
pub record NextToWrite (F P : List ℕ) (M : Table) (levels place : ℕ) (v : Word) (next left : ℕ) (cs : List Child) : Type 0 where
  pub child : Child
  pub others : List Child
  pub are : cs ≡ child ∷ others
  pub t : Tree
  pub x : Word
  pub y : Word
  pub planned : Planned F P M t child.state next
  pub low : Levels t levels
  pub writes : word M child.state t ≡ some x
  pub rest : ChildrenToWrite F P M levels place y (next + length (preorder t)) (left - 1) others
  pub whole : v ≡ x ++ (child.after ++ y)

module _ {F P : List ℕ} {M : Table} {levels place : ℕ} {v : Word} {next left : ℕ} where
  -- Where children are left, one is next.
  pub left_next : (cs : List Child) → ChildrenToWrite F P M levels place v next left cs → 0 < left → NextToWrite F P M levels place v next left cs
  unfolding Planned preorder Levels
  left_next [] h l = absurd (omega (arith, h.kids))
  left_next (c ∷ cs) h l = go (words_parts M h.ts c cs v h.writes)
    where
      go : (t : Tree) × (us : Forest) × (x : Word) × (y : Word) × (h.ts ≡ t ▸ us) × (word M c.state t ≡ some x) × (words M us cs ≡ some y)
          × (v ≡ x ++ (c.after ++ y)) → NextToWrite F P M levels place v next left (c ∷ cs)
      go (t, us, x, y, i, j, m, n) =
          let p' : Planneds F P M (t ▸ us) (c ∷ cs) next = rw i at h.planned in
          let d' : Levelss (t ▸ us) levels = rw i at h.low in
          let g' : next + length (preorders (t ▸ us)) ≡ place = rw i at h.passed in
          record {
            child = c;
            others = cs;
            are = refl;
            t = t;
            x = x;
            y = y;
            planned = p'.0;
            low = d'.0;
            writes = j;
            rest = record {
              ts = us;
              kids = omega (arith, h.kids);
              planned = p'.1;
              low = d'.1;
              writes = m;
              passed = omega (arith, g', length-append (preorder t) (preorders us));
            };
            whole = n;
          }

  -- Where none is left, nothing is left to write, and the tree has ended.
  pub left_last : (cs : List Child) → ChildrenToWrite F P M levels place v next left cs → left ≡ 0 → (v ≡ []) × (next ≡ place)
  unfolding preorder
  left_last [] h l = let a = words_nil M h.ts v h.writes in let p' = rw a.0 at h.passed in (a.1, omega arith)
  left_last (c ∷ cs) h l = absurd (omega (arith, h.kids))

-- A tree has a place of its own.
own_place : (t : Tree) → 0 < length (preorder t)
unfolding preorder
own_place (node f ts) = omega arith

module _ {F P : List ℕ} {M : Table} {levels place : ℕ} {v : Word} {next left : ℕ} {cs : List Child} (c : NextToWrite F P M levels place v next left cs) where
  -- A level is left for the child that is next.
  pub next_level : 0 < levels
  next_level = let z : levels ≡ 0 → ⊥ = λ e. no_level c.t levels e c.low in omega (arith, z)

  -- It stands before the end of the tree.
  pub next_place : next < place
  next_place = omega (arith, own_place c.t, c.rest.passed)
