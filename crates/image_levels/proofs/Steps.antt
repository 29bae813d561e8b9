-- The loop's state: what the levels on the stack tell of the bytes that are left is what is told of the whole. Assumes nothing.
use mathlib.Core.Path.{◌≡◌, refl, sym, ap, subst, ◌∙◌}
use mathlib.Core.Bool.{Bool, true, false}
use mathlib.Core.List.{List, [], ◌∷◌, map}
use mathlib.Core.Logic.{⊎_elim}
use Prim.Native.Nat.{ℕ, zero, suc, ◌+◌, ◌-◌, ◌<◌, ◌≤◌}
use native.Mathlib.Numerals.{add-one}
use native.Mathlib.Omega.{arith}
use borrow.Author.Tests.{eqb-true, eqb-false}
use lib.Dec.{eqb}
use lib.ListN.{length, get_or, set, drop, length-set}
use lib.Seq.{drop-cons, get_or-set_same, get_or-set_other}
use Rattle.words.specs.declared.No.{No}
use Rattle.words.specs.Reply.{Reply, given, refusal, no_at, refused, mapped}
use Rattle.words.proofs.Replies.{given_refused, refusal_injective}
use Rattle.machine.specs.Machine.{Tree}
use Rattle.trees.specs.Causes.{Sized}
use Rattle.trees.specs.Preorder.{preorder}
use Rattle.trees.specs.Shape.{read_tree, tree_most, depth_most}
use Rattle.records.specs.Records.{Element, Labels, bytes_of, image, spell}
use Rattle.records.specs.Symbols.{RecordSymbols}
use Rattle.records.proofs.Ranked.{image_refused}
use Rattle.image_levels.proofs.Row.{row, row_read, row_none, row_leaf, row_label, row_end}
use Rattle.image_levels.proofs.Spelt.{SymbolsFor, spelt_long, spelt_at, spelt_low, spelt_last, image_spelt}

-- The entries of a stack with so many places, from the top down.
abbrev pub entries : List ℕ → ℕ → List ℕ
entries W zero = []
entries W (suc n) = get_or W n 0 ∷ entries W n

-- There are as many.
entries_long : (W : List ℕ) (n : ℕ) → length (entries W n) ≡ n
entries_long W zero = refl
entries_long W (suc n) = ap suc (entries_long W n)

-- The top one, where there is one.
entries_some : (W : List ℕ) (n : ℕ) → 0 < n → entries W n ≡ get_or W (n - 1) 0 ∷ entries W (n - 1)
entries_some W zero h = absurd (omega arith)
entries_some W (suc n) h = let e : suc n - 1 ≡ n = omega arith in rw e

-- A store above them changes none.
entries_under : (W : List ℕ) (n i x : ℕ) → n ≤ i → entries (set W i x) n ≡ entries W n
entries_under W zero i x h = refl
entries_under W (suc n) i x h =
    let a = get_or-set_other W i n x 0 (λ e. omega arith) in
    let b = entries_under W n i x (omega arith) in
    cc

-- A store on their top puts it there.
entries_pushed : (W : List ℕ) (n x : ℕ) → n < length W → entries (set W n x) (n + 1) ≡ x ∷ entries W n
entries_pushed W n x h =
    let a = get_or-set_same W n x 0 h in
    let b = entries_under W n n x (omega arith) in
    rw (add-one n) (cc)

-- Numbers of levels, the lowest 0, of which each leaves room for as many above it.
abbrev Steep : List ℕ → Type 0
Steep [] = Unit {0}
Steep (n ∷ ns) = (n + length ns ≤ 65) × (0 < n → 0 < length ns) × Steep ns

-- The bytes B before i are passed, and with so many levels left for the next the stack W with `top` places tells of the others what is told of the whole.
pub record Climbing (B : List ℕ) (leaf : ℕ) (W : List ℕ) (top left i : ℕ) : Type 0 where
  pub passed : i ≤ length B
  pub places : length W ≡ 65
  pub steep : Steep (left ∷ entries W top)
  pub tells : (ar : List ℕ) (a : ℕ) (S : List ℕ) → RecordSymbols ar a → SymbolsFor a leaf B S
      → row ar (depth_most ∷ 0 ∷ []) 0 S ≡ row ar (left ∷ entries W top) i (drop i S)

-- At first all levels are left, and nothing waits but the lowest place.
pub climbing_first : (B : List ℕ) (leaf : ℕ) (W : List ℕ) → length W ≡ 65 → get_or W 0 0 ≡ 0 → Climbing B leaf W 1 64 0
climbing_first B leaf W l z =
    record {
      passed = omega arith;
      places = l;
      steep = rw z (omega arith, λ h. omega arith, (omega arith, λ h. absurd (omega arith), tt));
      tells = λ ar a S s k. rw z;
    }

module _ {B : List ℕ} {leaf : ℕ} {W : List ℕ} {top left i : ℕ} (t : Climbing B leaf W top left i) where
  -- Where a level is left a place of the stack is taken, and one is free.
  pub climbing_some : 0 < left → 0 < top
  climbing_some h = omega (arith, t.steep.1 h, entries_long W top)

  pub climbing_free : 0 < left → top < 65
  climbing_free h = omega (arith, t.steep.0, entries_long W top)

  -- What the stack tells, where a level is left, is what the number on it and those under it tell.
  row_next : (ar S : List ℕ) → 0 < left → i < length S
      → row ar (left ∷ entries W top) i (drop i S)
      ≡ row ar (suc (left - 1) ∷ get_or W (top - 1) 0 ∷ entries W (top - 1)) i (get_or S i 0 ∷ drop (suc i) S)
  row_next ar S h l =
      let e : left ≡ suc (left - 1) = omega arith in
      rw (← e, drop-cons S i 0 l, entries_some W top (climbing_some h))

  -- A leaf: what waits on top of the stack is next. What is stored above it does not matter.
  climbing_leaf : i < length B → 0 < left → get_or B i 0 ≡ leaf → Climbing B leaf (set W top (left - 1)) (top - 1) (get_or W (top - 1) 0) (i + 1)
  climbing_leaf l h b =
      let u = entries_under W (top - 1) top (left - 1) (omega arith) in
      record {
        passed = omega arith;
        places = length-set W top (left - 1) ∙ t.places;
        steep = rw u (subst Steep (entries_some W top (climbing_some h)) t.steep.2);
        tells = λ ar a S s k.
            let f = (spelt_at a leaf B S i k l).leaf_is b in
            let n = row_next ar S h (omega (arith, spelt_long a leaf B S k)) in
            t.tells ar a S s k ∙ n ∙ (rw (u, f, add-one i) (row_leaf ar a s (left - 1) (get_or W (top - 1) 0) (entries W (top - 1)) i (drop (suc i) S)));
      }

  -- A label: a level fewer for its first child, which is next, and for its second, which waits.
  climbing_label : i < length B → 0 < left → (get_or B i 0 ≡ leaf → ⊥) → Climbing B leaf (set W top (left - 1)) (top + 1) (left - 1) (i + 1)
  climbing_label l h b =
      let p = entries_pushed W top (left - 1) (omega (arith, t.places, climbing_free h)) in
      let q = entries_long W top in
      record {
        passed = omega arith;
        places = length-set W top (left - 1) ∙ t.places;
        steep = rw p (omega (arith, t.steep.0), λ z. omega arith, (omega (arith, t.steep.0), λ z. t.steep.1 h, t.steep.2));
        tells = λ ar a S s k.
            let f = (spelt_at a leaf B S i k l).label_is b in
            let n = row_next ar S h (omega (arith, spelt_long a leaf B S k)) in
            let e = entries_some W top (climbing_some h) in
            t.tells ar a S s k ∙ n
            ∙ (rw (p, e, add-one i) (row_label ar a s (left - 1) (get_or W (top - 1) 0) (entries W (top - 1)) i (get_or S i 0) (drop (suc i) S) f));
      }

  -- A byte, where what is left and how many places are taken behind it go by whether it is the leaf.
  pub climbing_byte : {left' top' : ℕ} → i < length B → 0 < left
      → (get_or B i 0 ≡ leaf → left' ≡ get_or W (top - 1) 0) × ((get_or B i 0 ≡ leaf → ⊥) → left' ≡ left - 1)
      → (get_or B i 0 ≡ leaf → top' ≡ top - 1) × ((get_or B i 0 ≡ leaf → ⊥) → top' ≡ top + 1) → Climbing B leaf (set W top (left - 1)) top' left' (i + 1)
  climbing_byte {left'} {top'} l h x y = go (eqb (get_or B i 0) leaf) refl
    where
      go : (is : Bool) → eqb (get_or B i 0) leaf ≡ is → Climbing B leaf (set W top (left - 1)) top' left' (i + 1)
      go true e = let b = eqb-true (get_or B i 0) leaf e in rw (x.0 b, y.0 b) (climbing_leaf l h b)
      go false e = let b = eqb-false (get_or B i 0) leaf e in rw (x.1 b, y.1 b) (climbing_label l h b)

-- What is told of an image as tree bytes.
abbrev image_told : List ℕ → ℕ → Element → Reply (Unit {0})
image_told ar a r = mapped (λ t. tt) (read_tree ar (preorder (image a r)))

-- What is told of an image that is not too long is no refusal but 10.
told_ten : (ar : List ℕ) (a : ℕ) (r : Element) (x q : ℕ) → RecordSymbols ar a → Labels a r → length (preorder (image a r)) ≤ tree_most
    → image_told ar a r ≡ refused x q → x ≡ 10
told_ten ar a r x q s h m e = ⊎_elim (λ z. absurd (omega (arith, z.2))) (λ z. z) (image_refused ar a s r x q h (go (read_tree ar (preorder (image a r))) e))
  where
    go : (o : Reply Tree) → mapped {B = Unit {0}} (λ t. tt) o ≡ refused x q → o ≡ refused x q
    go (given t) e = absurd (given_refused tt x q e)
    go (refusal y) e = ap (λ (z : No). refusal z) (refusal_injective {A = Unit {0}} y (no_at x q) e)

module _ {B : List ℕ} {leaf : ℕ} {W : List ℕ} {top left i : ℕ} (t : Climbing B leaf W top left i) (m : leaf ≤ 255)
    (ar : List ℕ) (a : ℕ) (r : Element) (s : RecordSymbols ar a) (h : Labels a r) (n : a ≤ leaf)
    (e : B ≡ map (spell leaf) (bytes_of r)) (l : length B < tree_most) where
  -- The symbols of the image stand for the bytes.
  spelt : SymbolsFor a leaf B (preorder (image a r))
  spelt = image_spelt a leaf r B n m h e

  -- Its size is right.
  sized : Sized (preorder (image a r))
  sized = let k = spelt_long a leaf B (preorder (image a r)) spelt in record { some = omega arith; most = omega arith }

  -- The stack tells of the symbols that are left what is told of the image.
  told : image_told ar a r ≡ row ar (left ∷ entries W top) i (drop i (preorder (image a r)))
  told = row_read ar (preorder (image a r)) sized ∙ t.tells ar a (preorder (image a r)) s spelt

  -- No refusal but 10 is told.
  only_ten : {x q : ℕ} → image_told ar a r ≡ refused x q → x ≡ 10
  only_ten {x} {q} k = told_ten ar a r x q s h sized.most k

  -- Where no level is left, 10 is told.
  pub climbing_deeper : left ≡ 0 → ◌≡◌ {A = Reply (Unit {0})} (refused 10 i) (image_told ar a r)
  climbing_deeper z =
      let S = preorder (image a r) in
      let k : i < length S = omega (arith, t.passed, spelt_long a leaf B S spelt) in
      let d = told ∙ ap (λ (x : ℕ). row ar (x ∷ entries W top) i (drop i S)) z ∙ ap (row ar (0 ∷ entries W top) i) (drop-cons S i 0 k) in
      ⊎_elim (λ x. sym (d ∙ x)) (λ x. absurd (omega (arith, only_ten (d ∙ x))))
      (row_none ar (entries W top) i (get_or S i 0) (drop (suc i) S) (omega (arith, s.many, spelt_low a leaf B S i spelt k)))

  -- Where all bytes are passed and a level is left, the image is given.
  pub climbing_fit : (left ≡ 0 → ⊥) → length B ≤ i → ◌≡◌ {A = Reply (Unit {0})} (given tt) (image_told ar a r)
  climbing_fit z k =
      let S = preorder (image a r) in
      let j : left ≡ suc (left - 1) = omega arith in
      let p : i ≡ length B = omega (arith, t.passed) in
      let d = told ∙ ap (λ (x : ℕ). row ar (x ∷ entries W top) i (drop i S)) j
      ∙ ap (row ar (suc (left - 1) ∷ entries W top) i) (ap (λ (x : ℕ). drop x S) p ∙ spelt_last a leaf B S spelt) in
      ⊎_elim (λ x. sym (d ∙ x)) (λ x. absurd (⊎_elim (λ y. omega (arith, only_ten (d ∙ y))) (λ y. omega (arith, only_ten (d ∙ y))) x))
      (row_end ar a s (left - 1) (entries W top) i)
