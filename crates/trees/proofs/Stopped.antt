-- Bytes that begin a tree and go on with none are refused there. Assumes nothing.
use mathlib.Core.Path.{◌≡◌}
use mathlib.Core.List.{List, ◌++◌, append_assoc}
use Prim.Native.Nat.{ℕ, zero, suc, ◌+◌, ◌<◌}
use native.Mathlib.Nat.{add-zero}
use native.Mathlib.Omega.{arith}
use borrow.Author.Tests.{lt-ltb, le-ltb}
use lib.ListN.{length, get_or, length-append}
use Rattle.words.specs.Reply.{refused}
use Rattle.machine.specs.Machine.{Forest, ∅, ◌▸◌}
use Rattle.machine.specs.Ranks.{count, Rankeds}
use Rattle.trees.specs.Preorder.{preorder, preorders, Levelss}
use Rattle.trees.specs.Shape.{forest_at, tree_at}
use Rattle.trees.specs.Causes.{Begun, here, below}
use Rattle.trees.proofs.Shape.{ends_later, tree_complete}
use Rattle.trees.proofs.Stops.{Why, ended, strange, under, Stops}

-- Where no tree begins, none is read.
nothing_read : (m : ℕ) (ar : List ℕ) (p : ℕ) (rest : List ℕ) (x : ℕ) → Why ar m rest x → tree_at m ar p rest ≡ refused x p
unfolding tree_at
nothing_read zero ar p rest x (ended i j) = rw (i, j)
nothing_read zero ar p rest x (strange i f bs j h) = rw (i, j, le-ltb f (length ar) h)
nothing_read zero ar p rest x (under i f bs j h k) = rw (i, j, lt-ltb f (length ar) h)
nothing_read (suc m) ar p rest x (ended i j) = rw (i, j)
nothing_read (suc m) ar p rest x (strange i f bs j h) = rw (i, j, le-ltb f (length ar) h)
nothing_read (suc m) ar p rest x (under i f bs j h k) = absurd (omega arith)

-- Behind whole trees, fewer than k, the refusal of the next is that of k trees.
forest_refused : (ts : Forest) (n k : ℕ) (ar : List ℕ) (p : ℕ) (rest : List ℕ) (x q : ℕ) → count ts < k → Rankeds ar ts → Levelss ts n
    → tree_at n ar (p + length (preorders ts)) rest ≡ refused x q → forest_at (tree_at n ar) k p (preorders ts ++ rest) ≡ refused x q
unfolding forest_at Levelss preorders
forest_refused ts n zero ar p rest x q c h l e = absurd (omega arith)
forest_refused ∅ n (suc k) ar p rest x q c h l e = let i : tree_at n ar p rest ≡ refused x q = rw add-zero at e in rw i
forest_refused (t ▸ ts) n (suc k) ar p rest x q c h l e =
    let a = tree_complete t n ar p (preorders ts ++ rest) h.0 l.0 in
    let e' = rw (← ends_later p (preorder t) (preorders ts)) at e in
    let b = forest_refused ts n k ar (p + length (preorder t)) rest x q (omega arith) h.1 l.1 e' in
    rw (append_assoc (preorder t) (preorders ts) rest, a, b)

-- A begun tree with n levels allowed is refused where no tree begins.
begun_refused : (ar : List ℕ) (m n p : ℕ) (u rest : List ℕ) (x : ℕ) → Begun ar m n u → Why ar m rest x
    → tree_at n ar p (u ++ rest) ≡ refused x (p + length u)
unfolding tree_at
begun_refused ar m n p u rest x (here i j) w = rw (i, j, add-zero) (nothing_read m ar p rest x w)
begun_refused ar m n p u rest x (below {n = n'} f ts v h c r l j b) w =
    let a = begun_refused ar m n' (suc p + length (preorders ts)) v rest x b w in
    let d = forest_refused ts n' (get_or ar f 0) ar (suc p) (v ++ rest) x _ c r l a in
    let i : suc p + length (preorders ts) + length v ≡ p + suc (length (preorders ts ++ v)) = omega (arith, length-append (preorders ts) v) in
    rw (j, lt-ltb f (length ar) h, append_assoc (preorders ts) v rest, d, i)

-- A tree that stops is refused.
pub stops_tree : (n : ℕ) (ar : List ℕ) (p : ℕ) (bs : List ℕ) (x q : ℕ) → Stops ar n p bs x q → tree_at n ar p bs ≡ refused x q
stops_tree n ar p bs x q s = rw (s.is, s.place) (begun_refused ar s.m n p s.u s.rest x s.begun s.why)
