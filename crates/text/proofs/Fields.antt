-- Fields: each field's reader reads back what is written, and only that.
use mathlib.Core.Path.{◌≡◌, refl, sym, ap, ◌∙◌}
use mathlib.Core.Bool.{Bool, true, false}
use mathlib.Core.List.{List, [], ◌∷◌, ◌++◌, append_assoc}
use Prim.Native.Nat.{ℕ, zero, suc, ◌<◌, ◌≤◌}
use native.Mathlib.Omega.{arith}
use borrow.Author.Tests.{ltb-true, leb-true, lt-ltb, le-leb}
use lib.Dec.{leb, ltb}
use lib.ListN.{length, take, drop, length-append, take-append-drop}
use lib.Seq.{take-append_seam, drop-append_seam, length-take-le}
use Rattle.words.specs.Word.{Word}
use Rattle.machine.specs.Machine.{Child, Each}
use Rattle.text.specs.Limits.{letters_most}
use Rattle.text.specs.Fields.{Parsed, got, fault, Field, and_then, check, within, below, letters, text, children}
use Rattle.text.specs.Writing.{text_of, children_text, AtMost, Short}

-- ---- one reader after the other

module _ {A B : Type 0} where
  -- Where two readers have read, the first has read some a, and the second has read behind it.
  pub then_inv : {P : Type 0} (p : Parsed A) (k : A → Field B) (b : B) (r : List ℕ) → and_then p k ≡ got b r
      → ((a : A) (s : List ℕ) → p ≡ got a s → k a s ≡ got b r → P) → P
  then_inv (got a s) k b r e f = f a s refl e
  then_inv (fault n) k b r e f = absurd (let z : ◌≡◌ {A = ℕ} 0 1 = cc in omega arith)

  -- What the second reads where the first has read.
  pub then_got : (p : Parsed A) (k : A → Field B) (a : A) (s : List ℕ) → p ≡ got a s → and_then p k ≡ k a s
  then_got p k a s e = rw e

module _ {B : Type 0} where
  -- A test that holds lets through what is read behind it.
  pub check_got : (t : Bool) (n : ℕ) (k : Unit {0} → Field B) (bs : List ℕ) → t ≡ true → and_then (check t n bs) k ≡ k tt bs
  check_got t n k bs e = rw e

  -- And only a test that holds.
  pub check_inv : (t : Bool) (n : ℕ) (k : Unit {0} → Field B) (bs : List ℕ) (b : B) (r : List ℕ) → and_then (check t n bs) k ≡ got b r
      → (t ≡ true) × (k tt bs ≡ got b r)
  check_inv true n k bs b r e = (refl, e)
  check_inv false n k bs b r e = absurd (let z : ◌≡◌ {A = ℕ} 0 1 = cc in omega arith)

-- ---- numbers

-- A number in its range is read.
pub within_read : (least most b : ℕ) (rest : List ℕ) → least ≤ b → b ≤ most → within least most (b ∷ rest) ≡ got b rest
unfolding within
within_read least most b rest h k =
    check_got (leb least b) 4 _ rest (le-leb least b h)
    ∙ check_got (leb b most) 4 _ rest (le-leb b most k)

-- Only a number in its range is read.
pub within_inv : (least most : ℕ) (bs : List ℕ) (b : ℕ) (rest : List ℕ) → within least most bs ≡ got b rest
    → (least ≤ b) × (b ≤ most) × (bs ≡ b ∷ rest)
unfolding within
within_inv least most [] b rest e = absurd (let z : ◌≡◌ {A = ℕ} 0 1 = cc in omega arith)
within_inv least most (c ∷ bs) b rest e =
    let x = check_inv (leb least c) 4 _ bs b rest e in
    let y = check_inv (leb c most) 4 _ bs b rest x.1 in
    let z : c ≡ b = cc y.1 in
    (omega (arith, leb-true least c x.0), omega (arith, leb-true c most y.0), cc y.1)

-- A number below n is read.
pub below_read : (n q : ℕ) (rest : List ℕ) → q < n → below n (q ∷ rest) ≡ got q rest
unfolding below
below_read n q rest h = check_got (ltb q n) 4 _ rest (lt-ltb q n h)

-- Only a number below n is read.
pub below_inv : (n : ℕ) (bs : List ℕ) (q : ℕ) (rest : List ℕ) → below n bs ≡ got q rest → (q < n) × (bs ≡ q ∷ rest)
unfolding below
below_inv n [] q rest e = absurd (let z : ◌≡◌ {A = ℕ} 0 1 = cc in omega arith)
below_inv n (c ∷ bs) q rest e =
    let x = check_inv (ltb c n) 4 _ bs q rest e in
    let z : c ≡ q = cc x.1 in
    (omega (arith, ltb-true c n x.0), cc x.1)

-- ---- words

-- As many letters as the word has are the word.
letters_read : (u rest : List ℕ) → letters (length u) (u ++ rest) ≡ got u rest
unfolding letters
letters_read u rest =
    rw (le-leb (length u) (length (u ++ rest)) (omega (arith, length-append u rest)), letters, take-append_seam, drop-append_seam)

-- Only so many letters are read.
letters_inv : (n : ℕ) (bs u rest : List ℕ) → letters n bs ≡ got u rest → (length u ≡ n) × (bs ≡ u ++ rest)
unfolding letters
letters_inv n bs u rest e = go (leb n (length bs)) refl e
  where
    go : (b : Bool) → leb n (length bs) ≡ b
        → elim b as (λ x. Parsed Word) [ true ↦ got (take n bs) (drop n bs) | false ↦ fault 5 ] ≡ got u rest → (length u ≡ n) × (bs ≡ u ++ rest)
    go true h i =
        let x : take n bs ≡ u = cc in
        let y : drop n bs ≡ rest = cc in
        (rw (← x) (length-take-le n bs (leb-true n (length bs) h)), rw (← x, ← y) (sym (take-append-drop n bs)))
    go false h i = absurd (let z : ◌≡◌ {A = ℕ} 0 1 = cc in omega arith)

-- A word of at most 32 letters is read.
pub text_read : (u rest : List ℕ) → length u ≤ letters_most → text (text_of u ++ rest) ≡ got u rest
unfolding text
text_read u rest h =
    then_got _ letters (length u) (u ++ rest) (within_read 0 letters_most (length u) (u ++ rest) (omega arith) h)
    ∙ letters_read u rest

-- Only a word of at most 32 letters is read.
pub text_inv : (bs u rest : List ℕ) → text bs ≡ got u rest → (length u ≤ letters_most) × (bs ≡ text_of u ++ rest)
unfolding text
text_inv bs u rest e =
    then_inv (within 0 letters_most bs) letters u rest e λ n s i j.
    let x = within_inv 0 letters_most bs n s i in
    let y = letters_inv n s u rest j in
    (omega (arith, x.1, y.0), x.2 ∙ cc (y.0, y.1))

-- ---- bytes of what is read

-- What stands in front in a list of bytes is bytes.
most_left : (n : ℕ) (u v : List ℕ) → AtMost n (u ++ v) → AtMost n u
most_left n [] v h = tt
most_left n (x ∷ u) v h = (h.0, most_left n u v h.1)

-- What stands behind is bytes.
most_right : (n : ℕ) (u v : List ℕ) → AtMost n (u ++ v) → AtMost n v
most_right n [] v h = h
most_right n (x ∷ u) v h = most_right n u v h.1

-- Bytes and bytes behind them are bytes.
pub most_append : (n : ℕ) (u v : List ℕ) → AtMost n u → AtMost n v → AtMost n (u ++ v)
most_append n [] v h k = k
most_append n (x ∷ u) v h k = (h.0, most_append n u v h.1 k)

-- A word is read from bytes: it is short, and bytes are left.
pub text_short : (bs u rest : List ℕ) → AtMost 255 bs → text bs ≡ got u rest → Short u × AtMost 255 rest × (bs ≡ text_of u ++ rest)
text_short bs u rest h e =
    let x = text_inv bs u rest e in
    let k : AtMost 255 (text_of u ++ rest) = rw x.1 at h in
    (record { length = x.0; letters = most_left 255 u rest k.1 }, most_right 255 u rest k.1, x.1)

-- ---- children

-- The children's states are below n.
abbrev pub StatesBelow : ℕ → List Child → Type 0
StatesBelow n cs = Each (λ c ds. c.state < n) cs

-- The children's words are short.
abbrev pub ShortWords : List Child → Type 0
ShortWords cs = Each (λ c ds. Short c.after) cs

-- Children with states and short words are read.
pub children_read : (n : ℕ) (cs : List Child) (rest : List ℕ) → StatesBelow n cs → ShortWords cs
    → children n (length cs) (children_text cs ++ rest) ≡ got cs rest
unfolding children children_text
children_read n [] rest h k = refl
children_read n (c ∷ cs) rest h k =
    let later = children_text cs ++ rest in
    let word : text (text_of c.after ++ children_text cs ++ rest) ≡ got c.after later =
    rw append_assoc (text_read c.after later k.0.length) in
    then_got _ _ c.state _ (below_read n c.state _ h.0)
    ∙ then_got _ _ c.after later word
    ∙ then_got _ _ cs rest (children_read n cs rest h.1 k.1)

-- Children that are read are what stands there.
pub children_bytes : (n k : ℕ) (bs : List ℕ) (cs : List Child) (rest : List ℕ) → children n k bs ≡ got cs rest → bs ≡ children_text cs ++ rest
unfolding children children_text
children_bytes n zero bs cs rest e = let x : [] ≡ cs = cc in let y : bs ≡ rest = cc in rw (← x) y
children_bytes n (suc k) bs cs rest e =
    then_inv (below n bs) _ cs rest e λ q s i e₁.
    then_inv (text s) _ cs rest e₁ λ u r j e₂.
    then_inv (children n k r) _ cs rest e₂ λ ds t l e₃.
    let a : record { state = q; after = u } ∷ ds ≡ cs = cc in
    let b : t ≡ rest = cc in
    let behind : u ++ r ≡ u ++ children_text ds ++ t = ap (λ v. u ++ v) (children_bytes n k r ds t l) ∙ sym (append_assoc u (children_text ds) t) in
    rw (← a, ← b) ((below_inv n bs q s i).1 ∙ ap (λ v. q ∷ v) (text_inv s u r j).1 ∙ ap (λ v. q ∷ length u ∷ v) behind)

-- The bytes bs are those of k children cs with states below n, and then the bytes rest.
pub record ChildrenRead (n k : ℕ) (bs : List ℕ) (cs : List Child) (rest : List ℕ) : Type 0 where
  pub count : length cs ≡ k
  pub states : StatesBelow n cs
  pub short : ShortWords cs
  pub left : AtMost 255 rest
  pub is : bs ≡ children_text cs ++ rest

-- Only such children are read.
pub children_inv : (n k : ℕ) (bs : List ℕ) (cs : List Child) (rest : List ℕ) → AtMost 255 bs → children n k bs ≡ got cs rest
    → ChildrenRead n k bs cs rest
unfolding children children_text
children_inv n zero bs cs rest h e =
    let x : [] ≡ cs = cc in
    let y : bs ≡ rest = cc in
    rw (← x, ← y) (record { count = refl; states = tt; short = tt; left = h; is = refl })
children_inv n (suc k) bs cs rest h e =
    then_inv (below n bs) _ cs rest e λ q s i e₁.
    then_inv (text s) _ cs rest e₁ λ u r j e₂.
    then_inv (children n k r) _ cs rest e₂ λ ds t l e₃.
    let x = below_inv n bs q s i in
    let hs : AtMost 255 (q ∷ s) = rw x.1 at h in
    let y = text_short s u r hs.1 j in
    let z = children_inv n k r ds t y.1 l in
    let a : record { state = q; after = u } ∷ ds ≡ cs = cc in
    let b : t ≡ rest = cc in
    rw (← a, ← b) (record {
      count = ap suc z.count;
      states = (x.0, z.states);
      short = (y.0, z.short);
      left = z.left;
      is = children_bytes n (suc k) bs (record { state = q; after = u } ∷ ds) t (cc (e, a, b));
    })
