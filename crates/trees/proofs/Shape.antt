-- The reading of a tree is sound and complete: it reads the preorder of a ranked tree of at most n levels, and nothing else. Assumes nothing.
use mathlib.Core.Path.{◌≡◌, refl, sym, ap, subst, ◌∙◌}
use mathlib.Core.Bool.{not}
use mathlib.Core.List.{List, [], ◌∷◌, ◌++◌, append_assoc}
use Prim.Native.Nat.{ℕ, zero, suc, ◌+◌}
use native.Mathlib.Nat.{add-zero}
use native.Mathlib.Omega.{arith}
use borrow.Author.Tests.{ltb-true, not-false, lt-ltb}
use lib.Dec.{ltb}
use lib.ListN.{length, get_or, length-append}
use Rattle.words.specs.Reply.{given, refused}
use Rattle.machine.specs.Machine.{Tree, Forest, node, ∅, ◌▸◌}
use Rattle.machine.specs.Ranks.{count, Ranked, Rankeds}
use Rattle.trees.specs.Preorder.{preorder, preorders, Levels, Levelss}
use Rattle.trees.specs.Shape.{Read, forest_at, tree_at}
use Rattle.words.proofs.Replies.{given_refused, given_injective, refuse_given, then_given}

-- What was read from place p on of bytes bs is a ranked tree of at most n levels, and the bytes are its preorder and what is left.
pub record IsTree (ar : List ℕ) (n p : ℕ) (bs : List ℕ) (r : Read Tree) : Type 0 where
  pub ranks : Ranked ar r.value
  pub levels : Levels r.value n
  pub is : bs ≡ preorder r.value ++ r.left
  pub ends : r.place ≡ p + length (preorder r.value)

-- The same of k trees one after the other.
record IsForest (ar : List ℕ) (n k p : ℕ) (bs : List ℕ) (r : Read Forest) : Type 0 where
  many : count r.value ≡ k
  ranks : Rankeds ar r.value
  levels : Levelss r.value n
  is : bs ≡ preorders r.value ++ r.left
  ends : r.place ≡ p + length (preorders r.value)

-- The length of trees one after the other, from place p on.
pub ends_later : (p : ℕ) (u v : List ℕ) → p + length u + length v ≡ p + length (u ++ v)
ends_later p u v = omega (arith, length-append u v)

-- Bytes that are u and others, which are v and more, are u and v and more.
pub append_seam : (u v rest : List ℕ) {bs cs : List ℕ} → bs ≡ u ++ cs → cs ≡ v ++ rest → bs ≡ u ++ v ++ rest
append_seam u v rest e i = e ∙ ap (λ (x : List ℕ). u ++ x) i ∙ sym (append_assoc u v rest)

-- Trees one after the other are read soundly if each is.
forest_sound : (ar : List ℕ) (n : ℕ) → ((p : ℕ) (bs : List ℕ) (r : Read Tree) → tree_at n ar p bs ≡ given r → IsTree ar n p bs r)
    → (k p : ℕ) (bs : List ℕ) (r : Read Forest) → forest_at (tree_at n ar) k p bs ≡ given r → IsForest ar n k p bs r
unfolding forest_at Levelss preorders
forest_sound ar n one zero p bs r e =
    subst (λ (x : Read Forest). IsForest ar n zero p bs x) (given_injective _ r e)
    (record { many = refl; ranks = tt; levels = tt; is = refl; ends = sym (add-zero p) })
forest_sound ar n one (suc k) p bs r e =
    let i = then_given (tree_at n ar p bs) _ r e in
    let j = then_given (forest_at (tree_at n ar) k i.0.place i.0.left) _ r i.2 in
    let a = one p bs i.0 i.1 in
    let b = forest_sound ar n one k i.0.place i.0.left j.0 j.1 in
    subst (λ (x : Read Forest). IsForest ar n (suc k) p bs x) (given_injective _ r j.2)
    (record {
      many = ap suc b.many;
      ranks = (a.ranks, b.ranks);
      levels = (a.levels, b.levels);
      is = append_seam (preorder i.0.value) (preorders j.0.value) j.0.left a.is b.is;
      ends = omega (arith, a.ends, b.ends, length-append (preorder i.0.value) (preorders j.0.value));
    })

-- Soundness: what is read is a ranked tree of at most n levels, and the bytes are its preorder and what is left.
pub tree_sound : (n : ℕ) (ar : List ℕ) (p : ℕ) (bs : List ℕ) (r : Read Tree) → tree_at n ar p bs ≡ given r → IsTree ar n p bs r
unfolding tree_at Levels preorder
tree_sound zero ar p [] r e = absurd (given_refused r _ _ (sym e))
tree_sound zero ar p (f ∷ bs) r e = absurd (given_refused r 10 p (sym (refuse_given (not (ltb f (length ar))) _ _ (refused 10 p) r e).1))
tree_sound (suc n) ar p [] r e = absurd (given_refused r _ _ (sym e))
tree_sound (suc n) ar p (f ∷ bs) r e =
    let i = refuse_given (not (ltb f (length ar))) _ _ _ r e in
    let j = then_given (forest_at (tree_at n ar) (get_or ar f 0) (suc p) bs) _ r i.1 in
    let b = forest_sound ar n (tree_sound n ar) (get_or ar f 0) (suc p) bs j.0 j.1 in
    subst (λ (x : Read Tree). IsTree ar (suc n) p (f ∷ bs) x) (given_injective _ r j.2)
    (record {
      ranks = (ltb-true f (length ar) (not-false (ltb f (length ar)) i.0), b.many, b.ranks);
      levels = b.levels;
      is = ap (λ (x : List ℕ). f ∷ x) b.is;
      ends = omega (arith, b.ends);
    })

-- Completeness: the preorder of a ranked tree of at most n levels is read as that tree, and what stands behind it is left.
mutual
  unfolding preorder preorders Levels Levelss tree_at forest_at

  pub tree_complete : (t : Tree) (n : ℕ) (ar : List ℕ) (p : ℕ) (rest : List ℕ) → Ranked ar t → Levels t n
      → tree_at n ar p (preorder t ++ rest) ≡ given (record { value = t; place = p + length (preorder t); left = rest })
  tree_complete (node f ts) zero ar p rest h l = absurd l
  tree_complete (node f ts) (suc n) ar p rest h l =
      let c = forest_complete ts n ar (suc p) rest h.2 l in
      let i : suc p + length (preorders ts) ≡ p + suc (length (preorders ts)) = omega arith in
      rw (lt-ltb f (length ar) h.0, ← h.1, c, i)

  forest_complete : (ts : Forest) (n : ℕ) (ar : List ℕ) (p : ℕ) (rest : List ℕ) → Rankeds ar ts → Levelss ts n
      → forest_at (tree_at n ar) (count ts) p (preorders ts ++ rest) ≡ given (record { value = ts; place = p + length (preorders ts); left = rest })
  forest_complete ∅ n ar p rest h l = rw add-zero
  forest_complete (t ▸ ts) n ar p rest h l =
      let a = tree_complete t n ar p (preorders ts ++ rest) h.0 l.0 in
      let b = forest_complete ts n ar (p + length (preorder t)) rest h.1 l.1 in
      rw (append_assoc (preorder t) (preorders ts) rest, a, b, ends_later p (preorder t) (preorders ts))
