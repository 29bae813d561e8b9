-- What a summary tells that is shown and that all words fit: whether there is a word, and whether there is a common prefix or suffix.
use mathlib.Core.Path.{◌≡◌, refl, sym, ap, ◌∙◌}
use mathlib.Core.Bool.{Bool, true, false, ◌||◌, true≢false, false≢true}
use mathlib.Core.List.{List}
use mathlib.Core.Option.{Option, none, some}
use Prim.Native.Nat.{ℕ}
use Rattle.words.specs.Word.{Word, Holds}
use Rattle.machine.specs.Machine.{Child, Table}
use Rattle.machine.specs.Earliest.{L, tails, HasWord}
use Rattle.end_laws.specs.Ends.{Side, end, Letters, nothing, one, several, Ends, unknown, lettered, lives, clean, along}
use Rattle.end_laws.specs.Meaning.{NoCommon, Ending, Allows, Fits, ShownLetters, Shown, Witnessed, Covering}
use Rattle.end_laws.proofs.Sides.{empty_no_common, letters_no_common, letter_common}
use Rattle.end_laws.proofs.Values.{ends, lives_shown, allows_lives}
use Rattle.end_laws.proofs.Rules.{along_shown, along_fits}

-- A summary that knows no word is the unknown one.
pub dead_unknown : (x : Ends) → lives x ≡ false → x ≡ unknown
dead_unknown x e = go x.empty x.letters e
  where
    go : (a : Bool) (l : Letters) → a || lettered l ≡ false → ends a l ≡ unknown
    go true l e = absurd (true≢false e)
    go false nothing e = refl
    go false (one a) e = absurd (true≢false e)
    go false several e = absurd (true≢false e)

module _ {I : Type 0} (side : Side) (X : I → Option Word) (x : Ends) where
  -- If the empty word or several letters are shown then there is no common prefix, or suffix.
  pub clean_no_common : Shown (Ending side X) x → clean x ≡ true → NoCommon side X
  clean_no_common h e = go x.empty x.letters h.empty h.letters e
    where
      go : (a : Bool) (l : Letters) → (a ≡ true → Ending side X none) → ShownLetters (Ending side X) l
          → clean (ends a l) ≡ true → NoCommon side X
      go true l f g e = empty_no_common side X (f refl)
      go false nothing f g e = absurd (false≢true e)
      go false (one a) f g e = absurd (false≢true e)
      go false several f g e = letters_no_common side X g.0 g.1 g.2 g.3 g.4

  -- If all words fit a summary without the empty word and without several letters then there is a common prefix, or suffix;
  -- in a set with no word every word is one.
  pub unclean_common : ((w : Word) → Holds X w → Fits side w x) → clean x ≡ false → NoCommon side X → ⊥
  unclean_common h e = go x.empty x.letters h e
    where
      letter : (a : ℕ) (o : Option ℕ) → Allows (ends false (one a)) o → o ≡ some a
      letter a none k = absurd (false≢true k)
      letter a (some b) k = ap some k

      gone : (o : Option ℕ) → Allows unknown o → o ≡ some 0
      gone none k = absurd (false≢true k)
      gone (some b) k = absurd k

      go : (a : Bool) (l : Letters) → ((w : Word) → Holds X w → Fits side w (ends a l))
          → clean (ends a l) ≡ false → NoCommon side X → ⊥
      go true l f e = absurd (true≢false e)
      go false nothing f e = letter_common side X 0 (λ w h. gone (end side w) (f w h))
      go false (one a) f e = letter_common side X a (λ w h. letter a (end side w) (f w h))
      go false several f e = absurd (true≢false e)

  -- No common prefix, or suffix, in a set whose words all fit: the summary has the empty word or several letters.
  pub no_common_clean : ((w : Word) → Holds X w → Fits side w x) → NoCommon side X → clean x ≡ true
  no_common_clean h n = go (clean x) refl
    where
      go : (b : Bool) → clean x ≡ b → b ≡ true
      go true e = refl
      go false e = absurd (unclean_common h e n)

module _ (M : Table) (side : Side) (K : ℕ → Ends) where
  -- A state of which some word is known has a word.
  pub lives_word : Witnessed M side K → (q : ℕ) → lives (K q) ≡ true → HasWord M q
  lives_word W q e = let a = lives_shown (Ending side (L M q)) (K q) (W q) e in (a.1.0, a.1.1)

  -- A state of which no word is known has none, where all words fit.
  pub dead_word : Covering M side K → (q : ℕ) → lives (K q) ≡ false → HasWord M q → ⊥
  dead_word C q e h = true≢false (sym (allows_lives (K q) (end side h.0) (C q h.0 h.1)) ∙ e)

  -- A state with the empty word or several letters has no common prefix, or suffix.
  pub clean_state : Witnessed M side K → (q : ℕ) → clean (K q) ≡ true → NoCommon side (L M q)
  clean_state W q e = clean_no_common side (L M q) (K q) (W q) e

  -- A state with neither has one, where all words fit.
  pub unclean_state : Covering M side K → (q : ℕ) → clean (K q) ≡ false → NoCommon side (L M q) → ⊥
  unclean_state C q e = unclean_common side (L M q) (K q) (C q) e

  -- The rest of a rule whose summary has the empty word or several letters has no common prefix, or suffix.
  pub clean_tails : Witnessed M side K → (cs : List Child) → clean (along side K cs) ≡ true → NoCommon side (tails M cs)
  clean_tails W cs e = clean_no_common side (tails M cs) (along side K cs) (along_shown M side K W cs) e

  -- The rest of a rule whose summary has neither has one, where all words fit.
  pub unclean_tails : Covering M side K → (cs : List Child) → clean (along side K cs) ≡ false → NoCommon side (tails M cs) → ⊥
  unclean_tails C cs e = unclean_common side (tails M cs) (along side K cs) (λ w h. along_fits M side K C h.0 cs w h.1) e
