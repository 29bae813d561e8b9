-- The trees for the states that wait decide the whole.
use mathlib.Core.Path.{◌≡◌, refl, ap, ◌∙◌}
use mathlib.Core.List.{List, [], ◌∷◌, ◌++◌, append-nil}
use mathlib.Core.Option.{some}
use Prim.Native.Nat.{ℕ, suc, ◌+◌, ◌*◌, ◌/◌, ◌%◌, ◌<◌, ◌≤◌}
use native.Mathlib.Omega.{arith}
use lib.ListN.{length, get_or, set, drop}
use lib.Seq.{drop-cons, drop-length, get_or-set_same, get_or-set_other}
use Rattle.machine.specs.Machine.{Forest, ∅, ◌▸◌, Rule, Table, find}
use Rattle.text.specs.Limits.{states_most}
use Rattle.trees.specs.Shape.{tree_most, depth_most}
use Rattle.trees.specs.Preorder.{preorders}
use Rattle.layout.specs.Layout.{rule_letters}
use Rattle.walk.specs.Plan.{Names, Counted}
use Rattle.waiting.specs.Waiting.{kids}
use Rattle.waiting.proofs.TreesFor.{TreesFor, Fitted, forested}

-- The plan P' is the plan P before place `at`.
abbrev pub Agrees : List ℕ → List ℕ → ℕ → Type 0
Agrees P P' at = (i : ℕ) → i < at → get_or P' i 0 ≡ get_or P i 0

-- So many letters are counted, and the numbers vs wait: whatever trees are right for them, and are the bytes S from `at` on, make S a tree with a word of
-- state q, which has theirs and those that are counted. The plan of what is before `at` is made.
pub record WholeFrom (F S P : List ℕ) (M : Table) (q : ℕ) (vs : List ℕ) (at letters : ℕ) : Type 0 where
  pub whole : (P' : List ℕ) (ts : Forest) (n : ℕ) → Agrees P P' at → TreesFor F P' M ts vs at n → drop at S ≡ preorders ts → (a : ℕ) → a ≡ letters + n
      → Counted F S P' M q a

-- At first one state waits: a tree that is right for it is the whole.
pub whole_first : (F S P : List ℕ) (M : Table) (q : ℕ) → q < states_most → length S ≤ tree_most → WholeFrom F S P M q (q ∷ []) 0 0
whole_first F S P M q l z = record { whole = λ P' ts n g h e a x. first P' ts n h e a x }
  where
    first : (P' : List ℕ) (ts : Forest) (n : ℕ) → TreesFor F P' M ts (q ∷ []) 0 n → S ≡ preorders ts → (a : ℕ) → a ≡ 0 + n → Counted F S P' M q a
    first P' ∅ n h e a x = absurd h
    first P' (t ▸ (u ▸ ts)) n h e a x = absurd h.1
    first P' (t ▸ ∅) n h e a x =
        let m : q % states_most ≡ q = omega arith in
        let d : q / states_most ≡ 0 = omega arith in
        record {
          tree = t;
          bytes = e ∙ unfold preorders in append-nil _;
          size = z;
          ranked = h.0.ranked;
          levels = rw d at h.0.levels;
          letters_of = h.0.letters_of;
          is = rw m at h.0.is;
          many = omega (arith, h.0.letters, h.1);
          planned = rw m at h.0.planned;
        }

-- The first number that waits meets the next symbol, and there is a rule: its children wait now.
pub whole_next : {F S P : List ℕ} {M : Table} {q v : ℕ} {vs : List ℕ} {at letters : ℕ} → WholeFrom F S P M q (v ∷ vs) at letters
    → at < length S → at < length P → v < states_most * depth_most
    → (r : Rule) (y : ℕ) → find M.rows (v % states_most) (get_or S at 0) ≡ some r → Fitted M (get_or S at 0) r → Names F y r
    → (l : ℕ) → l ≡ letters + rule_letters r
    → WholeFrom F S (set P at y) M q (kids (suc (v / states_most)) r.rest ++ vs) (suc at) l
whole_next {F} {S} {P} {M} {q} {v} {vs} {at} {letters} k i j b r y e f m l el =
    record {
      whole = λ P' ts n agrees h d x ex.
          let here : get_or P' at 0 ≡ y = agrees at (omega arith) ∙ get_or-set_same P at y 0 j in
          let more = forested {F = F} {P = P'} {M = M} (get_or S at 0) v r ts {vs = vs} {at = at} n b e f (rw here m) h in
          k.whole P' more.trees (rule_letters r + n)
          (λ o lt. agrees o (omega arith) ∙ get_or-set_other P at o y 0 (omega arith))
          more.held
          (drop-cons S at 0 i ∙ ap (λ (t : List ℕ). get_or S at 0 ∷ t) d ∙ more.bytes)
          x (omega arith);
    }

-- Nothing waits, and all bytes are passed: the whole.
pub whole_last : {F S P : List ℕ} {M : Table} {q at letters : ℕ} → WholeFrom F S P M q [] at letters → at ≡ length S → Counted F S P M q letters
whole_last {F} {S} {P} {M} {q} {at} {letters} k e =
    k.whole P ∅ 0 (λ i l. refl) refl (ap (λ (n : ℕ). drop n S) e ∙ drop-length S ∙ unfold preorders in refl) letters (omega arith)
