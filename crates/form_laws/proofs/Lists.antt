-- What holds of all members of a list, of each with those behind it, and of two lists side by side.
use mathlib.Core.Path.{◌≡◌, refl, ap}
use mathlib.Core.List.Memᴰ
use mathlib.Core.List.{List, [], ◌∷◌, ◌++◌, map, Memᴰ}
use mathlib.Core.Logic.{⊎_elim}
use Prim.Native.Nat.{ℕ, zero, suc, ◌<◌}
use native.Mathlib.Nat.{not-suc-le-zero, le_of_suc-le-suc}
use lib.ListN.{length, get_or}
use Rattle.form_laws.specs.Pairs.{Pairs}

module _ {A : Type 0} where
  -- P holds of all members.
  abbrev pub All : (A → Type 0) → List A → Type 0
  All P [] = Unit {0}
  All P (x ∷ xs) = P x × All P xs

  -- R relates each member to each behind it.
  abbrev pub Ordered : (A → A → Type 0) → List A → Type 0
  Ordered R [] = Unit {0}
  Ordered R (x ∷ xs) = All (R x) xs × Ordered R xs

  -- What holds of all and implies another thing: that holds of all.
  pub all_map : (P Q : A → Type 0) → ((x : A) → P x → Q x) → (xs : List A) → All P xs → All Q xs
  all_map P Q f [] h = tt
  all_map P Q f (x ∷ xs) h = (f x h.0, all_map P Q f xs h.1)

  -- Two things that hold of all hold of all together.
  pub all_both : (P Q : A → Type 0) (xs : List A) → All P xs → All Q xs → All (λ x. P x × Q x) xs
  all_both P Q [] h k = tt
  all_both P Q (x ∷ xs) h k = ((h.0, k.0), all_both P Q xs h.1 k.1)

  -- What holds of all members of two lists holds of all of both together.
  pub all_append : (P : A → Type 0) (xs ys : List A) → All P xs → All P ys → All P (xs ++ ys)
  all_append P [] ys h k = k
  all_append P (x ∷ xs) ys h k = (h.0, all_append P xs ys h.1 k)

  -- What holds of all members holds of one that is in the list.
  pub all_mem : (P : A → Type 0) {x : A} (xs : List A) → All P xs → Memᴰ x xs → P x
  all_mem P [] h m = absurd (Memᴰ.not-nil m)
  all_mem P {x} (y ∷ xs) h m = ⊎_elim (λ (e : x ≡ y). rw e h.0) (all_mem P xs h.1) (Memᴰ.cases_cons m)

  -- All members are in the list.
  pub mem_all : (xs : List A) → All (λ x. Memᴰ x xs) xs
  mem_all [] = tt
  mem_all (x ∷ xs) = (Memᴰ.head refl, all_map (λ y. Memᴰ y xs) (λ y. Memᴰ y (x ∷ xs)) (λ y m. Memᴰ.tail m) xs (mem_all xs))

  -- What holds of all members holds of the one at place i.
  pub all_at : (P : A → Type 0) (xs : List A) → All P xs → (i : ℕ) (d : A) → i < length xs → P (get_or xs i d)
  all_at P [] h i d l = absurd (not-suc-le-zero l)
  all_at P (x ∷ xs) h zero d l = h.0
  all_at P (x ∷ xs) h (suc i) d l = all_at P xs h.1 i d (le_of_suc-le-suc l)

  -- Of two places, the earlier member is related to the later.
  pub ordered_at : (R : A → A → Type 0) (xs : List A) → Ordered R xs → (i j : ℕ) (d : A) → i < j → j < length xs → R (get_or xs i d) (get_or xs j d)
  ordered_at R [] h i j d k l = absurd (not-suc-le-zero l)
  ordered_at R (x ∷ xs) h i zero d k l = absurd (not-suc-le-zero k)
  ordered_at R (x ∷ xs) h zero (suc j) d k l = all_at (R x) xs h.0 j d (le_of_suc-le-suc l)
  ordered_at R (x ∷ xs) h (suc i) (suc j) d k l = ordered_at R xs h.1 i j d (le_of_suc-le-suc k) (le_of_suc-le-suc l)

-- What holds of the images of all members holds of all members of the list of images.
pub all_image : {A B : Type 0} (P : B → Type 0) (f : A → B) (xs : List A) → All (λ x. P (f x)) xs → All P (map f xs)
all_image P f [] h = tt
all_image P f (x ∷ xs) h = (h.0, all_image P f xs h.1)

module _ {A B : Type 0} where
  -- Lists side by side have one length.
  pub pairs_length : (R : A → B → Type 0) (xs : List A) (ys : List B) → Pairs R xs ys → length xs ≡ length ys
  pairs_length R [] [] h = refl
  pairs_length R [] (y ∷ ys) h = absurd h
  pairs_length R (x ∷ xs) [] h = absurd h
  pairs_length R (x ∷ xs) (y ∷ ys) h = ap suc (pairs_length R xs ys h.1)

  -- Their members at one place are related.
  pub pairs_at : (R : A → B → Type 0) (xs : List A) (ys : List B) → Pairs R xs ys → (i : ℕ) (d : A) (e : B) → i < length xs → R (get_or xs i d) (get_or ys i e)
  pairs_at R [] ys h i d e l = absurd (not-suc-le-zero l)
  pairs_at R (x ∷ xs) [] h i d e l = absurd h
  pairs_at R (x ∷ xs) (y ∷ ys) h zero d e l = h.0
  pairs_at R (x ∷ xs) (y ∷ ys) h (suc i) d e l = pairs_at R xs ys h.1 i d e (le_of_suc-le-suc l)

  -- Two pairs of such lists, one behind the other.
  pub pairs_append : (R : A → B → Type 0) (xs xs' : List A) (ys ys' : List B) → Pairs R xs ys → Pairs R xs' ys' → Pairs R (xs ++ xs') (ys ++ ys')
  pairs_append R [] xs' [] ys' h k = k
  pairs_append R [] xs' (y ∷ ys) ys' h k = absurd h
  pairs_append R (x ∷ xs) xs' [] ys' h k = absurd h
  pairs_append R (x ∷ xs) xs' (y ∷ ys) ys' h k = (h.0, pairs_append R xs xs' ys ys' h.1 k)
