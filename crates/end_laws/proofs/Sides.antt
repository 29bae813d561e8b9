-- The ends of words at a side, and what they say of common prefixes and suffixes.
use mathlib.Core.Path.{◌≡◌, refl, sym, ap, ◌∙◌, subst}
use mathlib.Core.List.{[], ◌∷◌, ◌++◌, reverse, reverse-append, reverse-reverse, reverse-cons}
use mathlib.Core.Logic.{◌≢◌}
use mathlib.Core.Option.{Option, none, some, some-injective, none-ne-some}
use Prim.Native.Nat.{ℕ, suc, ◌-◌, ◌<◌}
use native.Mathlib.Omega.{arith}
use lib.ListN.{length, get_or, take, drop, drop_of_length-le}
use lib.Seq.{split_at}
use Rattle.words.specs.Word.{Word, Holds}
use Rattle.words.proofs.Ends.{empty_no_prefix, empty_no_suffix, heads_no_prefix, lasts_no_suffix, head_prefix, last_suffix}
use Rattle.end_laws.specs.Ends.{Side, left, right, first, end}
use Rattle.end_laws.specs.Meaning.{NoCommon, Ending}

-- The end of a word of two parts, by those of the parts: the nearer one's, if it has one.
infixr 65 ◌or◌
abbrev pub ◌or◌ : Option ℕ → Option ℕ → Option ℕ
none or o = o
(some a) or o = some a

-- The word with p nearer to the side and s farther.
abbrev pub from : Side → Word → Word → Word
from left p s = p ++ s
from right p s = s ++ p

-- The first letter of two words joined.
first_append : (u v : Word) → first (u ++ v) ≡ first u or first v
first_append [] v = refl
first_append (a ∷ u) v = refl

-- The end of a nearer word with a farther one.
pub end_from : (side : Side) (p s : Word) → end side (from side p s) ≡ end side p or end side s
end_from left p s = first_append p s
end_from right p s = rw (reverse-append s p) (first_append (reverse p) (reverse s))

-- Only the empty word has no letter.
first_empty : (w : Word) → first w ≡ none → w ≡ []
first_empty [] e = refl
first_empty (a ∷ w) e = absurd (none-ne-some a (sym e))

-- Only the empty word has no end.
pub end_empty : (side : Side) (w : Word) → end side w ≡ none → w ≡ []
end_empty left w e = first_empty w e
end_empty right w e = sym (reverse-reverse w) ∙ ap reverse (first_empty (reverse w) e)

-- A word with a first letter begins with it.
first_letter : (w : Word) (a : ℕ) → first w ≡ some a → (s : Word) × (w ≡ a ∷ s)
first_letter [] a e = absurd (none-ne-some a e)
first_letter (b ∷ w) a e = (w, ap (λ x. x ∷ w) (some-injective _ _ e))

-- A word that ends in a letter is that letter and the farther rest.
end_letter : (side : Side) (w : Word) (a : ℕ) → end side w ≡ some a → (s : Word) × (w ≡ from side (a ∷ []) s)
end_letter left w a e = first_letter w a e
end_letter right w a e =
    let h = first_letter (reverse w) a e in
    (reverse h.0, sym (reverse-reverse w) ∙ ap reverse h.1 ∙ reverse-cons a h.0)

-- A word with this end is in the set with the letter at the side.
letter_holds : {I : Type 0} (side : Side) (X : I → Option Word) (a : ℕ) → Ending side X (some a) → (s : Word) × Holds X (from side (a ∷ []) s)
letter_holds side X a h = let s = end_letter side h.0 a h.2 in (s.0, subst (Holds X) s.1 h.1)

-- ---- common prefixes and suffixes by ends
-- A set with the empty word has no common prefix, and no common suffix.
pub empty_no_common : {I : Type 0} (side : Side) (X : I → Option Word) → Ending side X none → NoCommon side X
empty_no_common left X h = empty_no_prefix X (subst (Holds X) (end_empty left h.0 h.2) h.1)
empty_no_common right X h = empty_no_suffix X (subst (Holds X) (end_empty right h.0 h.2) h.1)

-- A set with two different letters at a side has no common prefix, or suffix, there.
pub letters_no_common : {I : Type 0} (side : Side) (X : I → Option Word) (a b : ℕ) → a ≢ b
    → Ending side X (some a) → Ending side X (some b) → NoCommon side X
letters_no_common left X a b n h k =
    let u = letter_holds left X a h in
    let v = letter_holds left X b k in
    heads_no_prefix X a b u.0 v.0 n u.1 v.1
letters_no_common right X a b n h k =
    let u = letter_holds right X a h in
    let v = letter_holds right X b k in
    lasts_no_suffix X a b u.0 v.0 n u.1 v.1

-- A set all of whose words have one letter at a side has a common prefix, or suffix, there.
pub letter_common : {I : Type 0} (side : Side) (X : I → Option Word) (a : ℕ) → ((w : Word) → Holds X w → end side w ≡ some a) → NoCommon side X → ⊥
letter_common left X a c = head_prefix X a (λ w h. end_letter left w a (c w h))
letter_common right X a c = last_suffix X a (λ w h. end_letter right w a (c w h))

-- ---- the end of a word by its index
-- The empty word has no end.
pub end_none : (side : Side) (w : Word) → length w ≡ 0 → end side w ≡ none
end_none left [] e = refl
end_none right [] e = refl
end_none left (a ∷ w) e = absurd (omega arith)
end_none right (a ∷ w) e = absurd (omega arith)

-- The end at the left of a word that is not empty is its first letter.
pub end_left : (w : Word) → 0 < length w → end left w ≡ some (get_or w 0 0)
end_left [] h = absurd (omega arith)
end_left (a ∷ w) h = refl

-- The end at the right of a word whose last letter is a.
last_end : (u v : Word) (a : ℕ) → v ≡ [] → end right (u ++ a ∷ v) ≡ some a
last_end u v a e = ap (λ x. end right (u ++ a ∷ x)) e ∙ end_from right (a ∷ []) u

-- The end at the right of a word that is not empty is its last letter.
pub end_right : (w : Word) → 0 < length w → end right w ≡ some (get_or w (length w - 1) 0)
end_right w h =
    let n = length w - 1 in
    ap (end right) (split_at w n 0 (omega arith)) ∙ last_end (take n w) (drop (suc n) w) (get_or w n 0) (drop_of_length-le w {i = suc n} (omega arith))
