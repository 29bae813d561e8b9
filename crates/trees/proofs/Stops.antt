-- The reading of a tree is refused only where bytes that begin a tree are followed by nothing, by a symbol that is not in the list,
-- or by one for which no level is left. Assumes nothing.
use mathlib.Core.Path.{◌≡◌, refl, sym, ap, subst, ◌∙◌}
use mathlib.Core.Bool.{true, false, not}
use mathlib.Core.List.{List, [], ◌∷◌, ◌++◌}
use mathlib.Core.Logic.{⊎_elim}
use Prim.Native.Nat.{ℕ, zero, suc, ◌+◌, ◌<◌, ◌≤◌}
use native.Mathlib.Nat.{add-zero}
use native.Mathlib.Omega.{arith}
use borrow.Author.Tests.{ltb-true, ltb-false, not-true, not-false}
use lib.Dec.{ltb}
use lib.ListN.{length, get_or, length-append}
use Rattle.words.specs.Reply.{Reply, refused}
use Rattle.machine.specs.Machine.{Tree, Forest, ∅, ◌▸◌}
use Rattle.machine.specs.Ranks.{count, Rankeds}
use Rattle.trees.specs.Preorder.{preorder, preorders, Levelss}
use Rattle.trees.specs.Shape.{Read, forest_at, tree_at}
use Rattle.trees.specs.Causes.{Begun, here, below}
use Rattle.words.proofs.Replies.{given_refused, refused_injective, refuse_refused, then_refused}
use Rattle.trees.proofs.Shape.{IsTree, ends_later, append_seam, tree_sound}

-- Why no tree begins with the bytes that are left, where m levels are left: x is the number of that.
pub data Why (ar : List ℕ) (m : ℕ) (rest : List ℕ) (x : ℕ) : Type 0 where
  ended : x ≡ 8 → rest ≡ [] → Why ar m rest x
  strange : x ≡ 7 → (f : ℕ) (bs : List ℕ) → rest ≡ f ∷ bs → length ar ≤ f → Why ar m rest x
  under : x ≡ 10 → (f : ℕ) (bs : List ℕ) → rest ≡ f ∷ bs → f < length ar → m ≡ 0 → Why ar m rest x

-- The bytes bs from place p on begin a tree with n levels allowed, up to place q, and go on with no tree, by number x.
pub record Stops (ar : List ℕ) (n p : ℕ) (bs : List ℕ) (x q : ℕ) : Type 0 where
  pub m : ℕ
  pub u : List ℕ
  pub rest : List ℕ
  pub begun : Begun ar m n u
  pub is : bs ≡ u ++ rest
  pub place : q ≡ p + length u
  pub why : Why ar m rest x

-- The same of k trees: some are whole, and the next stops.
record StopsIn (ar : List ℕ) (n k p : ℕ) (bs : List ℕ) (x q : ℕ) : Type 0 where
  ts : Forest
  few : count ts < k
  ranks : Rankeds ar ts
  levels : Levelss ts n
  rest : List ℕ
  is : bs ≡ preorders ts ++ rest
  stops : Stops ar n (p + length (preorders ts)) rest x q

-- A tree that stops at its first place.
at_once : (ar : List ℕ) (n p : ℕ) (bs : List ℕ) (x y q : ℕ) → Why ar n bs x → y ≡ x → q ≡ p → Stops ar n p bs y q
at_once ar n p bs x y q w i j =
    record { m = n; u = []; rest = bs; begun = here refl refl; is = refl; place = j ∙ sym (add-zero p); why = subst (Why ar n bs) (sym i) w }

-- A whole tree, and then trees of which one stops.
stops_later : (ar : List ℕ) (n k p : ℕ) (bs : List ℕ) (x q : ℕ) (r : Read Tree) → IsTree ar n p bs r
    → StopsIn ar n k r.place r.left x q → StopsIn ar n (suc k) p bs x q
unfolding Levelss preorders
stops_later ar n k p bs x q r a b =
    let u = preorder r.value in
    let v = preorders b.ts in
    let i : r.place + length v ≡ p + length (u ++ v) = ap (λ (z : ℕ). z + length v) a.ends ∙ ends_later p u v in
    record {
      ts = r.value ▸ b.ts;
      few = omega (arith, b.few);
      ranks = (a.ranks, b.ranks);
      levels = (a.levels, b.levels);
      rest = b.rest;
      is = append_seam u v b.rest a.is b.is;
      stops = subst (λ (z : ℕ). Stops ar n z b.rest x q) i b.stops;
    }

-- The first tree stops.
stops_first : (ar : List ℕ) (n k p : ℕ) (bs : List ℕ) (x q : ℕ) → Stops ar n p bs x q → StopsIn ar n (suc k) p bs x q
unfolding Levelss preorders
stops_first ar n k p bs x q s =
    let stops = subst (λ (z : ℕ). Stops ar n z bs x q) (sym (add-zero p)) s in
    record { ts = ∅; few = omega arith; ranks = tt; levels = tt; rest = bs; is = refl; stops = stops }

-- Refused trees stop if each refused tree does.
forest_stops : (ar : List ℕ) (n : ℕ) → ((p : ℕ) (bs : List ℕ) (x q : ℕ) → tree_at n ar p bs ≡ refused x q → Stops ar n p bs x q)
    → (k p : ℕ) (bs : List ℕ) (x q : ℕ) → forest_at (tree_at n ar) k p bs ≡ refused x q → StopsIn ar n k p bs x q
unfolding forest_at
forest_stops ar n one zero p bs x q e = absurd (given_refused _ x q e)
forest_stops ar n one (suc k) p bs x q e =
    ⊎_elim (λ i. stops_first ar n k p bs x q (one p bs x q i)) (λ i.
    let r = i.0 in
    let whole = tree_sound n ar p bs r i.1 in
    ⊎_elim (λ j. stops_later ar n k p bs x q r whole (forest_stops ar n one k r.place r.left x q j))
    (λ j. absurd (given_refused _ x q j.2))
    (then_refused (forest_at (tree_at n ar) k r.place r.left) _ x q i.2))
    (then_refused (tree_at n ar p bs) _ x q e)

-- A tree below symbol f stops.
stops_below : (ar : List ℕ) (n p f : ℕ) (bs : List ℕ) (x q : ℕ) → f < length ar → StopsIn ar n (get_or ar f 0) (suc p) bs x q
    → Stops ar (suc n) p (f ∷ bs) x q
stops_below ar n p f bs x q h b =
    record {
      m = b.stops.m;
      u = f ∷ (preorders b.ts ++ b.stops.u);
      rest = b.stops.rest;
      begun = below f b.ts b.stops.u h (omega (arith, b.few)) b.ranks b.levels refl b.stops.begun;
      is = ap (λ (z : List ℕ). f ∷ z) (append_seam (preorders b.ts) b.stops.u b.stops.rest b.is b.stops.is);
      place = omega (arith, b.stops.place, length-append (preorders b.ts) b.stops.u);
      why = b.stops.why;
    }

-- Where no byte is left, number 8 is told.
nothing_left : (n : ℕ) (ar : List ℕ) (p x q : ℕ) → ◌≡◌ {A = Reply (Read Tree)} (refused 8 p) (refused x q) → Stops ar n p [] x q
nothing_left n ar p x q e =
    let i = refused_injective {A = Read Tree} 8 p x q e in
    at_once ar n p [] 8 x q (ended refl refl) i.0 i.1

-- Where the symbol is not in the list, number 7 is told.
not_listed : (n : ℕ) (ar : List ℕ) (p f : ℕ) (bs : List ℕ) (x q : ℕ) → not (ltb f (length ar)) ≡ true → x ≡ 7 → q ≡ p
    → Stops ar n p (f ∷ bs) x q
not_listed n ar p f bs x q h i j =
    at_once ar n p (f ∷ bs) 7 x q (strange refl f bs refl (ltb-false f (length ar) (not-true (ltb f (length ar)) h))) i j

-- A symbol that passes the test is in the list.
listed : (f : ℕ) (ar : List ℕ) → not (ltb f (length ar)) ≡ false → f < length ar
listed f ar h = ltb-true f (length ar) (not-false (ltb f (length ar)) h)

-- A refused tree stops.
pub tree_stops : (n : ℕ) (ar : List ℕ) (p : ℕ) (bs : List ℕ) (x q : ℕ) → tree_at n ar p bs ≡ refused x q → Stops ar n p bs x q
unfolding tree_at
tree_stops zero ar p [] x q e = nothing_left zero ar p x q e
tree_stops zero ar p (f ∷ bs) x q e =
    ⊎_elim (λ i. not_listed zero ar p f bs x q i.0 i.1 i.2) (λ i.
    let j = refused_injective {A = Read Tree} 10 p x q i.1 in
    at_once ar zero p (f ∷ bs) 10 x q (under refl f bs refl (listed f ar i.0) refl) j.0 j.1)
    (refuse_refused (not (ltb f (length ar))) _ _ _ x q e)
tree_stops (suc n) ar p [] x q e = nothing_left (suc n) ar p x q e
tree_stops (suc n) ar p (f ∷ bs) x q e =
    ⊎_elim (λ i. not_listed (suc n) ar p f bs x q i.0 i.1 i.2) (λ i.
    ⊎_elim (λ j. stops_below ar n p f bs x q (listed f ar i.0) (forest_stops ar n (tree_stops n ar) (get_or ar f 0) (suc p) bs x q j))
    (λ j. absurd (given_refused _ x q j.2))
    (then_refused (forest_at (tree_at n ar) (get_or ar f 0) (suc p) bs) _ x q i.1))
    (refuse_refused (not (ltb f (length ar))) _ _ _ x q e)
