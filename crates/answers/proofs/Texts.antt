-- Parts of lines: what is left out, and lists that grow at their end. Assumes nothing.
use mathlib.Core.Path.{◌≡◌, refl, sym, ap, ◌∙◌}
use mathlib.Core.List.{List, [], ◌∷◌, ◌++◌, append-nil, append_assoc}
use Prim.Native.Nat.{ℕ, ◌+◌, ◌<◌}
use native.Mathlib.Numerals.{add-one}
use native.Mathlib.Omega.{arith}
use lib.ListN.{length, take, get_or}
use lib.Seq.{take-suc}
use Rattle.text.specs.Lines.{hex_of}
use Rattle.output.specs.Decimal.{decimal}
use Rattle.answers.specs.Lines.{blanked, letters_text}

-- There are no letters.
pub letters_none : (w : List ℕ) → length w ≡ 0 → [] ≡ letters_text w
unfolding letters_text
letters_none [] e = refl
letters_none (x ∷ w) e = absurd (omega arith)

-- There are letters, behind a blank.
pub letters_some : (w : List ℕ) → (length w ≡ 0 → ⊥) → 0x20 ∷ [] ++ hex_of w ≡ letters_text w
unfolding letters_text
letters_some [] h = absurd (h refl)
letters_some (x ∷ w) h = refl

-- One number more behind a blank.
blanked_snoc : (ns : List ℕ) (n : ℕ) → blanked (ns ++ n ∷ []) ≡ blanked ns ++ 0x20 ∷ [] ++ decimal n
unfolding blanked
blanked_snoc [] n = append-nil (0x20 ∷ [] ++ decimal n)
blanked_snoc (m ∷ ns) n =
    ap (λ (l : List ℕ). 0x20 ∷ [] ++ decimal m ++ l) (blanked_snoc ns n) ∙ regroup (0x20 ∷ [] ++ decimal m) (blanked ns) (decimal n)
  where
    regroup : (a b d : List ℕ) → a ++ (b ++ 0x20 ∷ [] ++ d) ≡ a ++ b ++ 0x20 ∷ [] ++ d
    regroup a b d = simp append_assoc

-- The numbers up to the next one.
pub blanked_next : (ns : List ℕ) (i : ℕ) → i < length ns → blanked (take i ns) ++ 0x20 ∷ [] ++ decimal (get_or ns i 0) ≡ blanked (take (i + 1) ns)
blanked_next ns i h = sym (blanked_snoc (take i ns) (get_or ns i 0)) ∙ ap blanked (sym (take-suc ns i 0 h) ∙ ap (λ (j : ℕ). take j ns) (sym (add-one i)))
