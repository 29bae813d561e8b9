-- Fields, case by case: which number is told of a field that cannot be read, and what a word is by places.
use mathlib.Core.Path.{◌≡◌, refl, ◌∙◌}
use mathlib.Core.Bool.{Bool, false}
use mathlib.Core.List.{List, [], ◌∷◌}
use Prim.Native.Nat.{ℕ, ◌<◌, ◌≤◌}
use borrow.Author.Tests.{le-ltb, le-leb, lt-leb}
use lib.Dec.{leb, ltb}
use lib.ListN.{length, take, drop}
use Rattle.text.specs.Fields.{Parsed, got, fault, Field, and_then, check, within, below, letters}
use Rattle.text.proofs.Fields.{check_got}

module _ {A B : Type 0} where
  -- A reader that tells a number tells it for what comes behind it.
  pub then_fault : (p : Parsed A) (k : A → Field B) (n : ℕ) → p ≡ fault n → and_then p k ≡ fault n
  then_fault p k n e = rw e

module _ {B : Type 0} where
  -- A test that fails tells its number.
  pub check_fault : (t : Bool) (n : ℕ) (k : Unit {0} → Field B) (bs : List ℕ) → t ≡ false → and_then (check t n bs) k ≡ fault n
  check_fault t n k bs e = rw e

-- ---- numbers

-- 5 if a number is lacking.
pub within_lacking : (least most : ℕ) → within least most [] ≡ fault 5
unfolding within
within_lacking least most = refl

-- 4 if it is too small.
pub within_small : (least most b : ℕ) (rest : List ℕ) → b < least → within least most (b ∷ rest) ≡ fault 4
unfolding within
within_small least most b rest h = check_fault (leb least b) 4 _ rest (lt-leb least b h)

-- 4 if it is too large.
pub within_large : (least most b : ℕ) (rest : List ℕ) → least ≤ b → most < b → within least most (b ∷ rest) ≡ fault 4
unfolding within
within_large least most b rest h k =
    check_got (leb least b) 4 _ rest (le-leb least b h)
    ∙ check_fault (leb b most) 4 _ rest (lt-leb b most k)

-- 5 if a state or a symbol is lacking.
pub below_lacking : (n : ℕ) → below n [] ≡ fault 5
unfolding below
below_lacking n = refl

-- 4 if it is not below.
pub below_out : (n q : ℕ) (rest : List ℕ) → n ≤ q → below n (q ∷ rest) ≡ fault 4
unfolding below
below_out n q rest h = check_fault (ltb q n) 4 _ rest (le-ltb q n h)

-- ---- words

-- The letters are the next n bytes.
pub letters_there : (n : ℕ) (bs : List ℕ) → n ≤ length bs → letters n bs ≡ got (take n bs) (drop n bs)
unfolding letters
letters_there n bs h = rw (le-leb n (length bs) h, letters)

-- 5 if one of them is lacking.
pub letters_lacking : (n : ℕ) (bs : List ℕ) → length bs < n → letters n bs ≡ fault 5
unfolding letters
letters_lacking n bs h = rw (lt-leb n (length bs) h, letters)
