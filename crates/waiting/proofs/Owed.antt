-- The bytes that are left owe a tree to each state that waits, if the whole is a tree with a word; so what is unusual is no such tree.
use mathlib.Core.Path.{◌≡◌, refl, sym, ap, subst, ◌∙◌}
use mathlib.Core.List.{List, [], ◌∷◌, ◌++◌, append_assoc, append-nil}
use mathlib.Core.Option.{Option, none, some, some-injective}
use Prim.Native.Nat.{ℕ, zero, suc, ◌+◌, ◌-◌, ◌*◌, ◌/◌, ◌%◌, ◌<◌, ◌≤◌}
use native.Mathlib.Numerals.{add-one}
use native.Mathlib.Omega.{arith}
use lib.ListN.{length, get_or, drop, length-append, length-drop}
use Rattle.words.specs.Word.{Word}
use Rattle.words.specs.Reply.{given}
use Rattle.machine.specs.Machine.{Tree, Forest, node, ∅, ◌▸◌, Child, Rule, Table, Each, find, word, words}
use Rattle.machine.specs.Ranks.{Ranked, Rankeds}
use Rattle.machine.proofs.Word.{word_parts, words_nil, words_parts}
use Rattle.text.specs.Limits.{states_most}
use Rattle.trees.specs.Preorder.{preorder, preorders, Levels, Levelss}
use Rattle.trees.specs.Shape.{read_tree, depth_most}
use Rattle.trees.proofs.Preorder.{preorder_some}
use Rattle.trees.proofs.Levels.{no_level, levels_below}
use Rattle.trees.proofs.Whole.{read_sound}
use Rattle.layout.proofs.Stretches.{byte_here, byte_behind}
use Rattle.walk.specs.Walked.{Wordless}
use Rattle.waiting.specs.Waiting.{kids}
use Rattle.waiting.proofs.TreesFor.{Fitted}

-- The bytes S are a tree by the definition, and state q of M has a word on it.
pub record Worded (S : List ℕ) (M : Table) (q : ℕ) : Type 0 where
  pub tree : Tree
  pub read : read_tree M.arities S ≡ given tree
  pub letters_of : Word
  pub is : word M q tree ≡ some letters_of

-- Where that cannot be, there is no word.
pub wordless : {S : List ℕ} {M : Table} {q : ℕ} → (Worded S M q → ⊥) → Wordless M S q
wordless {S} {M} {q} h t e = go (word M q t) refl
  where
    go : (o : Option Word) → word M q t ≡ o → word M q t ≡ none
    go none i = i
    go (some w) i = absurd (h (record { tree = t; read = e; letters_of = w; is = i }))

-- Tree t is right for the waiting number v: ranked, within the levels left, with a word of the state.
pub record RightFor (M : Table) (t : Tree) (v : ℕ) : Type 0 where
  pub ranked : Ranked M.arities t
  pub levels : Levels t (depth_most - v / states_most)
  pub letters_of : Word
  pub is : word M (v % states_most) t ≡ some letters_of

-- The trees are right for the waiting numbers, one for each.
abbrev pub Rights : Table → Forest → List ℕ → Type 0
Rights M ∅ [] = Unit {0}
Rights M ∅ (v ∷ vs) = ⊥
Rights M (t ▸ ts) [] = ⊥
Rights M (t ▸ ts) (v ∷ vs) = RightFor M t v × Rights M ts vs

-- The bytes bs are trees that are right for the waiting numbers vs.
pub record Owed (M : Table) (vs bs : List ℕ) : Type 0 where
  pub trees : Forest
  pub rights : Rights M trees vs
  pub bytes : bs ≡ preorders trees

-- No number has more than three others below it for each symbol above it.
abbrev pub Thin : List ℕ → Type 0
Thin [] = Unit {0}
Thin (v ∷ vs) = (length vs ≤ 3 * (v / states_most)) × Thin vs

-- Each number's state is one of the table's.
abbrev pub Stated : Table → List ℕ → Type 0
Stated M [] = Unit {0}
Stated M (v ∷ vs) = (v % states_most < M.states) × Stated M vs

-- A rule's children wait in the table's states.
stated_kids : (M : Table) (e : ℕ) (cs : List Child) (vs : List ℕ)
    → Each (λ c ds. c.state < M.states) cs → Each (λ c ds. c.state < states_most) cs → Stated M vs → Stated M (kids e cs ++ vs)
stated_kids M e [] vs o k h = h
stated_kids M e (c ∷ cs) vs o k h = (omega (arith, k.0, o.0), stated_kids M e cs vs o.1 k.1 h)

-- A rule's children wait as thinly, one symbol further down.
thin_kids : (e : ℕ) (cs : List Child) (vs : List ℕ) (n : ℕ) → Each (λ c ds. c.state < states_most) cs → length cs + length vs ≤ suc n → n ≤ 3 * e → Thin vs
    → Thin (kids e cs ++ vs)
thin_kids e [] vs n k l m h = h
thin_kids e (c ∷ cs) vs n k l m h =
    let x : length (kids e cs) ≡ length cs = many cs in
    (omega (arith, k.0, length-append (kids e cs) vs), thin_kids e cs vs n k.1 (omega arith) m h)
  where
    many : (ds : List Child) → length (kids e ds) ≡ length ds
    many [] = refl
    many (d ∷ ds) = ap suc (many ds)

-- Trees on which a rule's rest has a word, and trees for others: right for the rule's children and the others.
owed_kids : (M : Table) (e : ℕ) (cs : List Child) (us others : Forest) (vs : List ℕ) (w : Word)
    → Each (λ c ds. c.state < states_most) cs → words M us cs ≡ some w → Rankeds M.arities us
    → Levelss us (depth_most - e) → Rights M others vs → Owed M (kids e cs ++ vs) (preorders us ++ preorders others)
unfolding preorders Levelss
owed_kids M e [] us others vs w k i r l h =
    record { trees = others; rights = h; bytes = rw (words_nil M us w i).0 refl }
owed_kids M e (c ∷ cs) us others vs w k i r l h =
    let a = words_parts M us c cs w i in
    let r' = rw a.4 at r in
    let l' = rw a.4 at l in
    let more = owed_kids M e cs a.1 others vs a.3 k.1 a.6 r'.1 l'.1 h in
    let q : (states_most * e + c.state) % states_most ≡ c.state = omega (arith, k.0) in
    let d : (states_most * e + c.state) / states_most ≡ e = omega (arith, k.0) in
    record {
      trees = a.0 ▸ more.trees;
      rights = (record { ranked = r'.0; levels = rw d l'.0; letters_of = a.2; is = rw q a.5 }, more.rights);
      bytes =
          ap (λ (z : Forest). preorders z ++ preorders others) a.4 ∙ append_assoc (preorder a.0) (preorders a.1) (preorders others)
          ∙ ap (λ (z : List ℕ). preorder a.0 ++ z) more.bytes;
    }

-- The root of the tree for the number v that comes next stands at `at`: its state has a rule, which writes on the trees below; behind these stand the others'.
record RootMet (M : Table) (S : List ℕ) (at v : ℕ) (vs : List ℕ) : Type 0 where
  pub rule : Rule
  pub found : find M.rows (v % states_most) (get_or S at 0) ≡ some rule
  pub level : v / states_most < depth_most
  pub below : Forest
  pub letters_of : Word
  pub is : words M below rule.rest ≡ some letters_of
  pub ranked : Rankeds M.arities below
  pub levels : Levelss below (depth_most - suc (v / states_most))
  pub others : Forest
  pub rights : Rights M others vs
  pub bytes : drop (suc at) S ≡ preorders below ++ preorders others

-- A tree has a level.
some_level : (t : Tree) (n : ℕ) → Levels t n → 0 < n
some_level t zero h = absurd (no_level t zero refl h)
some_level t (suc n) h = omega arith

-- A number that is owed a tree meets its root.
root_met : (M : Table) (S : List ℕ) (at v : ℕ) (vs : List ℕ) → Owed M (v ∷ vs) (drop at S) → RootMet M S at v vs
unfolding preorder preorders
root_met M S at v vs o = go o.trees o.rights o.bytes
  where
    go : (ts : Forest) → Rights M ts (v ∷ vs) → drop at S ≡ preorders ts → RootMet M S at v vs
    go ∅ h e = absurd h
    go (node f us ▸ others) h e =
        let a = word_parts M (v % states_most) f us h.0.letters_of h.0.is in
        let b : get_or S at 0 ≡ f = byte_here S at f (preorders us ++ preorders others) e in
        let l = some_level (node f us) (depth_most - v / states_most) h.0.levels in
        let n : depth_most - v / states_most - 1 ≡ depth_most - suc (v / states_most) = omega arith in
        record {
          rule = a.0;
          found = ap (find M.rows (v % states_most)) b ∙ a.2;
          level = omega arith;
          below = us;
          letters_of = a.1;
          is = a.3;
          ranked = h.0.ranked.2;
          levels = subst (λ (k : ℕ). Levelss us k) n (levels_below f us (depth_most - v / states_most) h.0.levels);
          others = others;
          rights = h.1;
          bytes = rw add-one at (byte_behind S at f (preorders us ++ preorders others) e);
        }

-- The numbers vs wait, thinly, in the table's states, and if the whole is a tree with a word of state q, the bytes from `at` on are theirs.
pub record Owing (S : List ℕ) (M : Table) (q : ℕ) (vs : List ℕ) (at : ℕ) : Type 0 where
  pub owed : Worded S M q → Owed M vs (drop at S)
  pub thin : Thin vs
  pub stated : Stated M vs

-- At first one state waits, and the whole is its tree.
pub owing_first : (S : List ℕ) (M : Table) (q : ℕ) → q < states_most → q < M.states → Owing S M q (q ∷ []) 0
unfolding preorders
owing_first S M q l i = record { owed = first; thin = (omega arith, tt); stated = (omega arith, tt) }
  where
    first : Worded S M q → Owed M (q ∷ []) S
    first w =
        let s = read_sound M.arities S w.tree w.read in
        let m : q % states_most ≡ q = omega arith in
        let d : q / states_most ≡ 0 = omega arith in
        record {
          trees = w.tree ▸ ∅;
          rights = (record { ranked = s.1; levels = rw d s.2; letters_of = w.letters_of; is = rw m w.is }, tt);
          bytes = s.0 ∙ sym (append-nil (preorder w.tree));
        }

-- The first number that waits meets the next symbol, and there is a rule: its children wait now.
pub owing_next : {S : List ℕ} {M : Table} {q v : ℕ} {vs : List ℕ} {at : ℕ} → Owing S M q (v ∷ vs) at
    → (r : Rule) → find M.rows (v % states_most) (get_or S at 0) ≡ some r → Fitted M (get_or S at 0) r → length r.rest ≤ 4
    → Owing S M q (kids (suc (v / states_most)) r.rest ++ vs) (suc at)
owing_next {S} {M} {q} {v} {vs} {at} o r e f few =
    record {
      owed = next;
      thin = thin_kids (suc (v / states_most)) r.rest vs (3 + length vs) f.states (omega arith) (omega (arith, o.thin.0)) o.thin.1;
      stated = stated_kids M (suc (v / states_most)) r.rest vs f.own f.states o.stated.1;
    }
  where
    next : Worded S M q → Owed M (kids (suc (v / states_most)) r.rest ++ vs) (drop (suc at) S)
    next w =
        let m = root_met M S at v vs (o.owed w) in
        let i : m.rule ≡ r = some-injective m.rule r (sym m.found ∙ e) in
        let h = subst (λ (x : Rule). words M m.below x.rest ≡ some m.letters_of) i m.is in
        subst (λ (x : List ℕ). Owed M (kids (suc (v / states_most)) r.rest ++ vs) x) (sym m.bytes)
        (owed_kids M (suc (v / states_most)) r.rest m.below m.others vs m.letters_of f.states h m.ranked m.levels m.rights)

-- Nothing waits, and bytes are left: no tree with a word.
pub owing_none : {S : List ℕ} {M : Table} {q at : ℕ} → Owing S M q [] at → at < length S → Worded S M q → ⊥
unfolding preorders
owing_none {S} {M} {at = at} o l w = go (o.owed w).trees (o.owed w).rights (o.owed w).bytes
  where
    go : (ts : Forest) → Rights M ts [] → drop at S ≡ preorders ts → ⊥
    go ∅ h e = omega (arith, length-drop at S, ap length e)
    go (t ▸ ts) h e = h

-- A number waits behind the last byte: no tree with a word.
pub owing_early : {S : List ℕ} {M : Table} {q v : ℕ} {vs : List ℕ} {at : ℕ} → Owing S M q (v ∷ vs) at → length S ≤ at → Worded S M q → ⊥
unfolding preorders
owing_early {S} {M} {v = v} {vs = vs} {at = at} o l w = go (o.owed w).trees (o.owed w).rights (o.owed w).bytes
  where
    go : (ts : Forest) → Rights M ts (v ∷ vs) → drop at S ≡ preorders ts → ⊥
    go ∅ h e = h
    go (t ▸ ts) h e = omega (arith, preorder_some t, length-drop at S, simp length-append at (ap length e))

-- The number that comes next meets a symbol for which its state has a rule, and has at most 63 symbols above it.
pub owing_met : {S : List ℕ} {M : Table} {q v : ℕ} {vs : List ℕ} {at : ℕ} → Owing S M q (v ∷ vs) at → Worded S M q
    → (r : Rule) × (find M.rows (v % states_most) (get_or S at 0) ≡ some r) × (v < states_most * depth_most)
owing_met {S} {M} {q} {v} {vs} {at} o w = let m = root_met M S at v vs (o.owed w) in (m.rule, m.found, omega (arith, m.level))
