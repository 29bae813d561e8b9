-- Trees for the numbers that wait.
use mathlib.Core.Path.{◌≡◌, refl, sym, ap, subst, ◌∙◌}
use mathlib.Core.List.{List, [], ◌∷◌, ◌++◌, append_assoc}
use mathlib.Core.Option.{some}
use Prim.Native.Nat.{ℕ, suc, ◌+◌, ◌-◌, ◌*◌, ◌/◌, ◌%◌, ◌<◌}
use native.Mathlib.Omega.{arith}
use lib.ListN.{length, get_or, length-append}
use Rattle.words.specs.Word.{Word}
use Rattle.machine.specs.Machine.{Tree, Forest, node, ∅, ◌▸◌, Child, Rule, Table, Each, find, word, words}
use Rattle.machine.specs.Ranks.{count, Ranked, Rankeds}
use Rattle.machine.proofs.Word.{word_join, words_join}
use Rattle.text.specs.Limits.{states_most}
use Rattle.trees.specs.Shape.{depth_most}
use Rattle.trees.specs.Preorder.{preorder, preorders, Levels, Levelss}
use Rattle.layout.specs.Layout.{rest_letters, rule_letters}
use Rattle.walk.specs.Plan.{Names, Planned, Planneds}
use Rattle.waiting.specs.Waiting.{kids}

-- Tree t at place `at` is right for the waiting number v: ranked, within the levels left, with a word of the state, its rules planned.
-- The word is the first of several, which have n letters in all.
pub record TreeFor (F P : List ℕ) (M : Table) (t : Tree) (v at n : ℕ) : Type 0 where
  pub ranked : Ranked M.arities t
  pub levels : Levels t (depth_most - v / states_most)
  pub letters_of : Word
  pub is : word M (v % states_most) t ≡ some letters_of
  pub planned : Planned F P M t (v % states_most) at
  pub more : ℕ
  pub letters : n ≡ length letters_of + more

-- The trees, one after the other from place `at` on, are right for the waiting numbers, with n letters in all.
abbrev pub TreesFor : List ℕ → List ℕ → Table → Forest → List ℕ → ℕ → ℕ → Type 0
TreesFor F P M ∅ [] at n = n ≡ 0
TreesFor F P M ∅ (v ∷ vs) at n = ⊥
TreesFor F P M (t ▸ ts) [] at n = ⊥
TreesFor F P M (t ▸ ts) (v ∷ vs) at n = (h : TreeFor F P M t v at n) × TreesFor F P M ts vs (at + length (preorder t)) h.more

-- Trees for a rule's children and for others: the first are right for the rest of the rule, the others for what waits behind.
record ForestParted (F P : List ℕ) (M : Table) (ts : Forest) (e : ℕ) (cs : List Child) (vs : List ℕ) (at n : ℕ) : Type 0 where
  trees : Forest
  others : Forest
  bytes : preorders ts ≡ preorders trees ++ preorders others
  many : count trees ≡ length cs
  ranked : Rankeds M.arities trees
  levels : Levelss trees (depth_most - e)
  letters_of : Word
  is : words M trees cs ≡ some letters_of
  planned : Planneds F P M trees cs at
  more : ℕ
  letters : n + rest_letters cs ≡ length letters_of + more
  behind : TreesFor F P M others vs (at + length (preorders trees)) more

module _ (F P : List ℕ) (M : Table) (e : ℕ) (vs : List ℕ) where
  -- No child: all trees are the others'.
  part_none : (ts : Forest) (at n : ℕ) → TreesFor F P M ts vs at n → ForestParted F P M ts e [] vs at n
  unfolding preorders Levelss words Planneds rest_letters
  part_none ts at n h =
      let z : at ≡ at + 0 = omega arith in
      record {
        trees = ∅;
        others = ts;
        bytes = refl;
        many = refl;
        ranked = tt;
        levels = tt;
        letters_of = [];
        is = refl;
        planned = tt;
        more = n;
        letters = omega arith;
        behind = subst (λ (a : ℕ). TreesFor F P M ts vs a n) z h;
      }

  -- A child: the first tree is its own.
  part_child : (t : Tree) (ts : Forest) (c : Child) (cs : List Child) (at n : ℕ) → c.state < states_most
      → (h : TreeFor F P M t (states_most * e + c.state) at n)
      → ForestParted F P M ts e cs vs (at + length (preorder t)) h.more → ForestParted F P M (t ▸ ts) e (c ∷ cs) vs at n
  unfolding preorders Levelss Planneds rest_letters
  part_child t ts c cs at n k h p =
      let q : (states_most * e + c.state) % states_most ≡ c.state = omega arith in
      let d : (states_most * e + c.state) / states_most ≡ e = omega arith in
      let w : word M c.state t ≡ some h.letters_of = rw q at h.is in
      let u = length-append (preorder t) (preorders p.trees) in
      let z : at + length (preorder t) + length (preorders p.trees) ≡ at + length (preorder t ++ preorders p.trees) = omega arith in
      let x = h.letters_of in
      let y = p.letters_of in
      record {
        trees = t ▸ p.trees;
        others = p.others;
        bytes = ap (λ (l : List ℕ). preorder t ++ l) p.bytes ∙ sym (append_assoc (preorder t) (preorders p.trees) (preorders p.others));
        many = ap suc p.many;
        ranked = (h.ranked, p.ranked);
        levels = (rw d at h.levels, p.levels);
        letters_of = x ++ (c.after ++ y);
        is = words_join M t p.trees c cs x y w p.is;
        planned = (rw q at h.planned, p.planned);
        more = p.more;
        letters = omega (arith, h.letters, p.letters, length-append x (c.after ++ y), length-append c.after y);
        behind = subst (λ (a : ℕ). TreesFor F P M p.others vs a p.more) z p.behind;
      }

  -- Trees for a rule's children and for others part.
  part : (cs : List Child) (ts : Forest) (at n : ℕ) → Each (λ c ds. c.state < states_most) cs
      → TreesFor F P M ts (kids e cs ++ vs) at n → ForestParted F P M ts e cs vs at n
  part [] ts at n k h = part_none ts at n h
  part (c ∷ cs) ∅ at n k h = absurd h
  part (c ∷ cs) (t ▸ ts) at n k h = part_child t ts c cs at n k.0 h.0 (part cs ts (at + length (preorder t)) h.0.more k.1 h.1)

-- A rule that fits the table M: its symbol is in the list, with as many trees as the rule has children, whose states are the table's, and few enough.
pub record Fitted (M : Table) (f : ℕ) (r : Rule) : Type 0 where
  pub symbol : f < length M.arities
  pub arity : length r.rest ≡ get_or M.arities f 0
  pub own : Each (λ c ds. c.state < M.states) r.rest
  pub states : Each (λ c ds. c.state < states_most) r.rest

-- Trees for the waiting numbers vs, whose symbols in preorder are the bytes bs.
pub record Forested (F P : List ℕ) (M : Table) (vs : List ℕ) (at n : ℕ) (bs : List ℕ) : Type 0 where
  pub trees : Forest
  pub held : TreesFor F P M trees vs at n
  pub bytes : bs ≡ preorders trees

-- A symbol with the trees below it: right for the number v, where the rule of v's state is planned there and the trees are right for its children.
grown : {F P : List ℕ} {M : Table} (f v : ℕ) (r : Rule) {ts : Forest} {vs : List ℕ} {at n : ℕ} → v < states_most * depth_most
    → find M.rows (v % states_most) f ≡ some r → Fitted M f r → Names F (get_or P at 0) r
    → ForestParted F P M ts (suc (v / states_most)) r.rest vs (suc at) n → Forested F P M (v ∷ vs) at (rule_letters r + n) (f ∷ preorders ts)
unfolding preorder Levels Planned rule_letters
grown {F} {P} {M} f v r {ts} {vs} {at} {n} l e i m p =
    let d : depth_most - v / states_most ≡ suc (depth_most - suc (v / states_most)) = omega arith in
    let t : Tree = node f p.trees in
    let w = p.letters_of in
    let z : suc at + length (preorders p.trees) ≡ at + suc (length (preorders p.trees)) = omega arith in
    record {
      trees = t ▸ p.others;
      held = (
        record {
          ranked = (i.symbol, p.many ∙ i.arity, p.ranked);
          levels = subst (λ (k : ℕ). Levels t k) (sym d) p.levels;
          letters_of = r.first ++ w;
          is = word_join M (v % states_most) f p.trees r w e p.is;
          planned = (r, e, m, p.planned);
          more = p.more;
          letters = omega (arith, p.letters, length-append r.first w);
        },
        subst (λ (a : ℕ). TreesFor F P M p.others vs a p.more) z p.behind,
      );
      bytes = ap (λ (l : List ℕ). f ∷ l) p.bytes;
    }

-- Trees for a rule's children and for others give trees for the number that the rule is for and the others.
pub forested : {F P : List ℕ} {M : Table} (f v : ℕ) (r : Rule) (ts : Forest) {vs : List ℕ} {at : ℕ} (n : ℕ) → v < states_most * depth_most
    → find M.rows (v % states_most) f ≡ some r → Fitted M f r → Names F (get_or P at 0) r
    → TreesFor F P M ts (kids (suc (v / states_most)) r.rest ++ vs) (suc at) n → Forested F P M (v ∷ vs) at (rule_letters r + n) (f ∷ preorders ts)
forested {F} {P} {M} f v r ts {vs} {at} n l e i m h = grown f v r l e i m (part F P M (suc (v / states_most)) vs r.rest ts (suc at) n i.states h)
