-- Bytes that are symbols of a list whose last is a: those of an accepted stream in symbols, and those of a ranked tree. Assumes nothing.
use mathlib.Core.Path.{◌≡◌, refl, sym}
use mathlib.Core.Bool.{Bool, true, false, not}
use mathlib.Core.List.{List, [], ◌∷◌, ◌++◌}
use Prim.Native.Nat.{ℕ, zero, suc, ◌<◌, ◌≤◌}
use native.Mathlib.Omega.{arith}
use borrow.Author.Tests.{eqb-true, ltb-true}
use lib.Dec.{eqb, ltb}
use lib.ListN.{length, get_or, take, length-take}
use lib.Seq.{get_or-take}
use Rattle.words.specs.Reply.{Reply, given, refuse_if}
use Rattle.words.proofs.Replies.{given_refused, then_given}
use Rattle.machine.specs.Machine.{Tree, Forest, node, ∅, ◌▸◌}
use Rattle.machine.specs.Ranks.{Ranked, Rankeds}
use Rattle.trees.specs.Preorder.{preorder, preorders}
use Rattle.records.specs.Counter.{StreamMarks, marks, closing#, opening#, step#, marks_from, marks_of, check_stream}
use Rattle.records.proofs.Loop.{Below}

-- ---- an accepted stream

-- A byte that is taken is a symbol.
step_low : (a : ℕ) (m m' : StreamMarks) (p b : ℕ) → step# a a m p b ≡ given m' → b ≤ a
step_low a m m' p b h = go (eqb b a) (ltb b a) refl refl h
  where
    go : (x y : Bool) → eqb b a ≡ x → ltb b a ≡ y
        → ◌≡◌ {A = Reply StreamMarks} (elim x [ true ↦ closing# m.open_now p | false ↦ refuse_if (not y) 21 p (opening# m.open_now m.begun p) ]) (given m')
        → b ≤ a
    go true y e f k = omega (arith, eqb-true b a e)
    go false true e f k = omega (arith, ltb-true b a f)
    go false false e f k = absurd (given_refused m' 21 p (sym k))

marks_low : (bs : List ℕ) (a : ℕ) (m m' : StreamMarks) (p : ℕ) → marks_from a a m p bs ≡ given m' → Below a bs
unfolding marks_from
marks_low [] a m m' p h i l = absurd (omega arith)
marks_low (b ∷ bs) a m m' p h zero l = step_low a m (then_given (step# a a m p b) _ m' h).0 p b (then_given (step# a a m p b) _ m' h).1
marks_low (b ∷ bs) a m m' p h (suc i) l =
    let k = then_given (step# a a m p b) _ m' h in
    marks_low bs a k.0 m' (suc p) k.2 i (omega arith)

-- The bytes of an accepted stream in symbols are symbols.
pub check_low : (a : ℕ) (bs : List ℕ) → check_stream a a bs ≡ given tt → Below a bs
unfolding check_stream marks_of
check_low a bs h = let k = then_given (marks_of a a bs) _ tt h in marks_low bs a (marks 0 false) k.0 0 k.1

-- ---- a ranked tree

-- All are below n.
abbrev AllUnder : ℕ → List ℕ → Type 0
AllUnder n [] = Unit {0}
AllUnder n (b ∷ bs) = (b < n) × AllUnder n bs

under_append : (n : ℕ) (bs cs : List ℕ) → AllUnder n bs → AllUnder n cs → AllUnder n (bs ++ cs)
under_append n [] cs h k = k
under_append n (b ∷ bs) cs h k = (h.0, under_append n bs cs h.1 k)

under_at : (n : ℕ) (bs : List ℕ) (i : ℕ) → AllUnder n bs → i < length bs → get_or bs i 0 < n
under_at n [] i h l = absurd (omega arith)
under_at n (b ∷ bs) zero h l = h.0
under_at n (b ∷ bs) (suc i) h l = under_at n bs i h.1 (omega arith)

-- The symbols of a ranked tree are in the list.
mutual
  unfolding preorder preorders

  tree_under : (t : Tree) (ar : List ℕ) → Ranked ar t → AllUnder (length ar) (preorder t)
  tree_under (node f ts) ar h = (h.0, trees_under ts ar h.2)

  trees_under : (ts : Forest) (ar : List ℕ) → Rankeds ar ts → AllUnder (length ar) (preorders ts)
  trees_under ∅ ar h = tt
  trees_under (t ▸ ts) ar h = under_append (length ar) (preorder t) (preorders ts) (tree_under t ar h.0) (trees_under ts ar h.1)

-- So are the first of them.
pub tree_low : (ar : List ℕ) (a : ℕ) (t : Tree) (k : ℕ) → length ar ≡ suc a → Ranked ar t → Below a (take k (preorder t))
tree_low ar a t k m h i l =
    let j : i < k = omega (arith, length-take k (preorder t)) in
    rw (get_or-take k (preorder t) i 0 j) (omega (arith, under_at (length ar) (preorder t) i (tree_under t ar h) (omega (arith, length-take k (preorder t)))))
