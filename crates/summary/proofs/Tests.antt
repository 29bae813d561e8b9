-- One word, by its end, and summaries of one word.
use mathlib.Core.Path.{◌≡◌, refl, sym, ap, ◌∙◌}
use mathlib.Core.Bool.{false}
use mathlib.Core.Option.{some}
use Prim.Native.Nat.{ℕ, suc, ◌+◌, ◌-◌, ◌<◌}
use native.Mathlib.Omega.{arith}
use lib.ListN.{length, get_or}
use Rattle.words.specs.Word.{Word}
use Rattle.end_laws.specs.Ends.{Side, left, right, end, one, Ends, blank, alone}
use Rattle.end_laws.proofs.Sides.{end_none, end_left, end_right}
use Rattle.summary.specs.Codes.{letters_told, summary_told, decode, only_empty}
use Rattle.summary.proofs.Codes.{letter_one, without_empty}

-- A letter and one more is the summary of a word that ends in it.
pub letter_alone : (a : ℕ) → a < 256 → summary_told (a + 1) ≡ record { empty = false; letters = one a }
letter_alone a h = without_empty (a + 1) (omega arith) ∙ ap (λ l. record { empty = false; letters = l }) (ap letters_told e ∙ letter_one a h)
  where
    e : a + 1 ≡ suc a
    e = omega arith

-- 1024 is the summary of the empty word.
pub blank_alone : summary_told 1024 ≡ blank
unfolding letters_told
blank_alone = refl

-- The empty word.
pub end_empty : (side : Side) (w : Word) → length w ≡ 0 → blank ≡ alone (end side w)
end_empty side w e = sym (ap alone (end_none side w e))

-- The empty word, as it is kept.
pub end_kept_empty : (side : Side) (w : Word) → length w ≡ 0 → decode only_empty ≡ alone (end side w)
end_kept_empty side w e = blank_alone ∙ end_empty side w e

module _ (w : Word) (some-letter : 0 < length w) (x : Ends) (a : ℕ) (e : x ≡ alone (some a)) where
  -- A word seen from the left, by its first letter.
  pub end_first : a ≡ get_or w 0 0 → x ≡ alone (end left w)
  end_first d = e ∙ ap (λ b. alone (some b)) d ∙ ap alone (sym (end_left w some-letter))

  -- A word seen from the right, by its last letter.
  pub end_last : a ≡ get_or w (length w - 1) 0 → x ≡ alone (end right w)
  end_last d = e ∙ ap (λ b. alone (some b)) d ∙ ap alone (sym (end_right w some-letter))
