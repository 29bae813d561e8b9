-- When a set has no common prefix or suffix: it holds the empty word, or two words that begin or end with different letters.
-- And when it has one.
use mathlib.Core.Path.{◌≡◌, refl, sym, ◌∙◌, subst}
use mathlib.Core.Logic.{◌≢◌}
use mathlib.Core.List.{[], ◌∷◌, ◌++◌, reverse, reverse-append, nil≢cons, cons≢nil, head-eq_of_cons-eq}
use mathlib.Core.Option.{Option}
use Prim.Native.Nat.{ℕ}
use Rattle.words.specs.Word.{Word, Holds, NoPrefix, NoSuffix}
use Rattle.words.proofs.Mirror.{mirror, mirror_holds, suffix_prefix}

-- A prefix of the empty word is empty.
empty_left : (u v : Word) → [] ≡ u ++ v → u ≡ []
empty_left [] v e = refl
empty_left (a ∷ u) v e = absurd (nil≢cons e)

module _ {I : Type 0} (X : I → Option Word) where
  -- A set that holds the empty word has no common prefix.
  pub empty_no_prefix : Holds X [] → NoPrefix X
  empty_no_prefix h p c = empty_left p (c [] h).0 (c [] h).1

  -- A set that holds two words with different first letters has no common prefix.
  pub heads_no_prefix : (a b : ℕ) (u v : Word) → a ≢ b → Holds X (a ∷ u) → Holds X (b ∷ v) → NoPrefix X
  heads_no_prefix a b u v n h k p c = go p (c (a ∷ u) h) (c (b ∷ v) k)
    where
      go : (p : Word) → (s : Word) × (a ∷ u ≡ p ++ s) → (s : Word) × (b ∷ v ≡ p ++ s) → p ≡ []
      go [] i j = refl
      go (d ∷ p) i j = absurd (n (head-eq_of_cons-eq i.1 ∙ sym (head-eq_of_cons-eq j.1)))

  -- A first letter that all words share is a common prefix.
  pub head_prefix : (a : ℕ) → ((w : Word) → Holds X w → (s : Word) × (w ≡ a ∷ s)) → NoPrefix X → ⊥
  head_prefix a c n = cons≢nil (n (a ∷ []) c)

  -- A last letter that all words share is a common suffix.
  pub last_suffix : (a : ℕ) → ((w : Word) → Holds X w → (p : Word) × (w ≡ p ++ a ∷ [])) → NoSuffix X → ⊥
  last_suffix a c n = cons≢nil (n (a ∷ []) c)

module _ {I : Type 0} (X : I → Option Word) where
  -- A set that holds the empty word has no common suffix.
  pub empty_no_suffix : Holds X [] → NoSuffix X
  empty_no_suffix h = (suffix_prefix X).1 (empty_no_prefix (mirror X) (mirror_holds X [] h))

  -- A set that holds two words with different last letters has no common suffix.
  pub lasts_no_suffix : (a b : ℕ) (u v : Word) → a ≢ b → Holds X (u ++ a ∷ []) → Holds X (v ++ b ∷ []) → NoSuffix X
  lasts_no_suffix a b u v n h k = (suffix_prefix X).1 (heads_no_prefix (mirror X) a b (reverse u) (reverse v) n (back a u h) (back b v k))
    where
      back : (d : ℕ) (w : Word) → Holds X (w ++ d ∷ []) → Holds (mirror X) (d ∷ reverse w)
      back d w g = subst (Holds (mirror X)) (reverse-append w (d ∷ [])) (mirror_holds X (w ++ d ∷ []) g)

module _ {I J : Type 0} (X : I → Option Word) (Y : J → Option Word) where
  -- A set has no common prefix if a part of it has none.
  pub part_no_prefix : ((w : Word) → Holds X w → Holds Y w) → NoPrefix X → NoPrefix Y
  part_no_prefix part n p c = n p (λ w h. c w (part w h))

  -- A set has no common suffix if a part of it has none.
  pub part_no_suffix : ((w : Word) → Holds X w → Holds Y w) → NoSuffix X → NoSuffix Y
  part_no_suffix part n s c = n s (λ w h. c w (part w h))
