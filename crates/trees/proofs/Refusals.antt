-- Tree bytes are refused exactly for the listed causes. Assumes nothing.
use mathlib.Core.Path.{◌≡◌, refl, sym, ap, subst, subst₂, ◌∙◌}
use mathlib.Core.Bool.{not}
use mathlib.Core.List.{List, [], ◌∷◌, ◌++◌, append-nil}
use mathlib.Core.Logic.{⊎_elim, ◌↔◌}
use Prim.Native.Nat.{ℕ, suc, ◌+◌, ◌<◌, ◌≤◌}
use native.Mathlib.Omega.{arith}
use borrow.Author.Tests.{eqb-false, not-true, ne_eqb}
use lib.Dec.{eqb}
use lib.ListN.{length, get_or, take, drop, length-append, length-drop, take-append-drop}
use lib.Seq.{take_at, get_or_at, drop-cons, length-take-le}
use Rattle.words.specs.Reply.{given, refused, ◌then◌}
use Rattle.machine.specs.Machine.{Tree}
use Rattle.trees.specs.Preorder.{preorder}
use Rattle.trees.specs.Shape.{Read, tree_at, alone, read_tree, depth_most}
use Rattle.trees.specs.Causes.{Begun, Sized, Cause, size, unknown, early, deep, behind}
use Rattle.words.proofs.Replies.{given_refused, refuse_refused, then_refused}
use Rattle.trees.proofs.Shape.{IsTree, tree_sound, tree_complete}
use Rattle.trees.proofs.Stops.{Why, ended, strange, under, Stops, tree_stops}
use Rattle.trees.proofs.Stopped.{stops_tree}
use Rattle.trees.proofs.Whole.{wrong_size, size_right, right_size, size_wrong, wrong_size_lem}

-- Where bytes are u, f and more, f stands behind u.
record Seam (bs u : List ℕ) (f q : ℕ) : Type 0 where
  front : take q bs ≡ u
  there : get_or bs q 0 ≡ f
  inside : q < length bs

-- Bytes made so have that seam.
seam : (bs u cs : List ℕ) (f q : ℕ) → bs ≡ u ++ f ∷ cs → q ≡ length u → Seam bs u f q
seam bs u cs f q e j =
    record {
      front = rw e (take_at u (f ∷ cs) q (sym j));
      there = rw e (get_or_at u f cs 0 q (sym j));
      inside = rw e (omega (arith, length-append u (f ∷ cs)));
    }

-- A tree that stops is a cause.
stops_cause : (ar bs : List ℕ) (x q : ℕ) → Sized bs → (m : ℕ) (u rest : List ℕ) → Begun ar m depth_most u
    → bs ≡ u ++ rest → q ≡ length u → Why ar m rest x → Cause ar bs x q
stops_cause ar bs x q s m u rest b e j (ended i k) =
    let z : u ≡ bs = sym (append-nil u) ∙ ap (λ (w : List ℕ). u ++ w) (sym k) ∙ sym e in
    early i s (j ∙ ap length z) m (subst (Begun ar m depth_most) z b)
stops_cause ar bs x q s m u rest b e j (strange i f cs k h) =
    let g = seam bs u cs f q (e ∙ ap (λ (w : List ℕ). u ++ w) k) j in
    unknown i s g.inside (omega (arith, g.there)) m (subst (Begun ar m depth_most) (sym g.front) b)
stops_cause ar bs x q s m u rest b e j (under i f cs k h z) =
    let g = seam bs u cs f q (e ∙ ap (λ (w : List ℕ). u ++ w) k) j in
    deep i s g.inside (omega (arith, g.there)) (subst₂ (λ (a : ℕ) (w : List ℕ). Begun ar a depth_most w) z (sym g.front) b)

-- Bytes behind a tree are a cause.
alone_cause : (ar bs : List ℕ) (x q : ℕ) → Sized bs → (r : Read Tree) → IsTree ar depth_most 0 bs r → alone r ≡ refused x q → Cause ar bs x q
alone_cause ar bs x q s r a e =
    ⊎_elim (λ i.
    let n = eqb-false (length r.left) 0 (not-true (eqb (length r.left) 0) i.0) in
    let j : q ≡ length (preorder r.value) = omega (arith, i.2, a.ends) in
    let l : length bs ≡ length (preorder r.value) + length r.left = ap length a.is ∙ length-append (preorder r.value) r.left in
    behind i.1 s (omega arith) r.value a.ranks a.levels (rw a.is (take_at (preorder r.value) r.left q (sym j))))
    (λ i. absurd (given_refused r.value x q i.1))
    (refuse_refused (not (eqb (length r.left) 0)) _ _ (given r.value) x q e)

-- A refusal has its cause.
pub refused_cause : (ar bs : List ℕ) (x q : ℕ) → read_tree ar bs ≡ refused x q → Cause ar bs x q
unfolding read_tree
refused_cause ar bs x q e =
    ⊎_elim (λ i. size i.1 i.2 (size_wrong bs i.0)) (λ i.
    let sized = size_right bs i.0 in
    ⊎_elim (λ j.
    let s = tree_stops depth_most ar 0 bs x q j in
    stops_cause ar bs x q sized s.m s.u s.rest s.begun s.is (omega (arith, s.place)) s.why)
    (λ j. alone_cause ar bs x q sized j.0 (tree_sound depth_most ar 0 bs j.0 j.1) j.2)
    (then_refused (tree_at depth_most ar 0 bs) alone x q i.1))
    (refuse_refused (wrong_size bs) _ _ (tree_at depth_most ar 0 bs then alone) x q e)

-- What stops at place q, in bytes of the right size, is refused there.
stops_refused : (ar bs : List ℕ) (x q : ℕ) → Sized bs → Stops ar depth_most 0 bs x q → read_tree ar bs ≡ refused x q
unfolding read_tree
stops_refused ar bs x q s t = rw (right_size bs s, stops_tree depth_most ar 0 bs x q t)

-- Bytes whose first q begin a tree, and whose others are no tree, stop at q.
stops_within : (ar bs : List ℕ) (x q m : ℕ) → q ≤ length bs → Begun ar m depth_most (take q bs) → Why ar m (drop q bs) x
    → Stops ar depth_most 0 bs x q
stops_within ar bs x q m l b w =
    let place : q ≡ 0 + length (take q bs) = omega (arith, length-take-le q bs l) in
    record { m = m; u = take q bs; rest = drop q bs; begun = b; is = sym (take-append-drop q bs); place = place; why = w }

-- A cause is refused.
pub cause_refused : (ar bs : List ℕ) (x q : ℕ) → Cause ar bs x q → read_tree ar bs ≡ refused x q
unfolding read_tree
cause_refused ar bs x q (size i j k) = rw (i, j, wrong_size_lem bs k)
cause_refused ar bs x q (unknown i s l h m b) =
    let why = strange i (get_or bs q 0) (drop (suc q) bs) (drop-cons bs q 0 l) h in
    stops_refused ar bs x q s (stops_within ar bs x q m (omega arith) b why)
cause_refused ar bs x q (early i s l m b) =
    stops_refused ar bs x q s
    (record { m = m; u = bs; rest = []; begun = b; is = sym (append-nil bs); place = omega arith; why = ended i refl })
cause_refused ar bs x q (deep i s l h b) =
    let why = under i (get_or bs q 0) (drop (suc q) bs) (drop-cons bs q 0 l) h refl in
    stops_refused ar bs x q s (stops_within ar bs x q 0 (omega arith) b why)
cause_refused ar bs x q (behind i s l t r v k) =
    let e : bs ≡ preorder t ++ drop q bs = sym (take-append-drop q bs) ∙ ap (λ (w : List ℕ). w ++ drop q bs) k in
    let c = ap (tree_at depth_most ar 0) e ∙ tree_complete t depth_most ar 0 (drop q bs) r v in
    let j : 0 + length (preorder t) ≡ q = omega (arith, ap length (sym k), length-take-le q bs (omega arith)) in
    let n = ne_eqb (length (drop q bs)) 0 (λ z. omega (arith, length-drop q bs)) in
    rw (right_size bs s, c, n, i, j)

-- The two together.
pub read_refused : (ar bs : List ℕ) (x q : ℕ) → (read_tree ar bs ≡ refused x q) ↔ Cause ar bs x q
read_refused ar bs x q = (refused_cause ar bs x q, cause_refused ar bs x q)

-- The number of a cause is 6, 7, 8, 10 or 11.
pub cause_number : {ar bs : List ℕ} {x q : ℕ} → Cause ar bs x q → (6 ≤ x) × (x ≤ 11) × (x ≡ 9 → ⊥)
cause_number (size i j k) = (omega arith, omega arith, λ e. omega arith)
cause_number (unknown i s l h m b) = (omega arith, omega arith, λ e. omega arith)
cause_number (early i s l m b) = (omega arith, omega arith, λ e. omega arith)
cause_number (deep i s l h b) = (omega arith, omega arith, λ e. omega arith)
cause_number (behind i s l t r v k) = (omega arith, omega arith, λ e. omega arith)
