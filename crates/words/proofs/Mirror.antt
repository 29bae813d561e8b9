-- A set of words read backwards: its common prefixes are the common suffixes of the set.
use mathlib.Core.Path.{◌≡◌, sym, ap, ◌∙◌}
use mathlib.Core.Logic.{◌↔◌}
use mathlib.Core.List.{[], ◌++◌, reverse, reverse-append, reverse-reverse}
use mathlib.Core.Option.{Option, none, some, some-injective, none-ne-some}
use Rattle.words.specs.Word.{Word, Holds, NoPrefix, NoSuffix}

-- An answer's word read backwards.
abbrev pub backwards : Option Word → Option Word
backwards none = none
backwards (some w) = some (reverse w)

-- The set of the words read backwards.
abbrev pub mirror : {I : Type 0} → (I → Option Word) → I → Option Word
mirror X i = backwards (X i)

-- A word that read backwards is p and then s is s backwards and then p backwards.
turned : (w p s : Word) → reverse w ≡ p ++ s → w ≡ reverse s ++ reverse p
turned w p s e = sym (reverse-reverse w) ∙ ap reverse e ∙ reverse-append p s

-- A word is empty if it is empty backwards.
empty_backwards : (w : Word) → reverse w ≡ [] → w ≡ []
empty_backwards w e = sym (reverse-reverse w) ∙ ap reverse e

module _ {I : Type 0} (X : I → Option Word) where
  -- A word of the set is backwards in the mirror.
  pub mirror_holds : (w : Word) → Holds X w → Holds (mirror X) (reverse w)
  mirror_holds w h = (h.0, ap backwards h.1)

  -- A word of the mirror is backwards in the set.
  holds_mirror : (w : Word) → Holds (mirror X) w → Holds X (reverse w)
  holds_mirror w h = (h.0, go (X h.0) h.1)
    where
      go : (o : Option Word) → backwards o ≡ some w → o ≡ some (reverse w)
      go none e = absurd (none-ne-some w e)
      go (some u) e = ap some (sym (reverse-reverse u) ∙ ap reverse (some-injective _ _ e))

  -- A set has no common suffix exactly when its mirror has no common prefix.
  pub suffix_prefix : NoSuffix X ↔ NoPrefix (mirror X)
  suffix_prefix = (
    λ n p c. empty_backwards p (n (reverse p) (λ w h. let k = c (reverse w) (mirror_holds w h) in (reverse k.0, turned w p k.0 k.1))),
    λ n s c. empty_backwards s (n (reverse s) (λ w h. let k = c (reverse w) (holds_mirror w h) in (reverse k.0, turned w k.0 s k.1))),
  )
