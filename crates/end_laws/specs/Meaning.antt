-- What a summary says of a set of words: what it claims is shown by words, and all words fit it. Definitions only.
use Rattle.std.specs.Prelude.{◌≡◌, true, false, List, ◌≢◌, ℕ}
use Rattle.std.proofs.Math.Option.{Option, none, some}
use Rattle.std.proofs.Math.ListN.{get_elem?}
use Rattle.words.specs.Word.{Word, Holds, NoPrefix, NoSuffix}
use Rattle.machine.specs.Machine.{Child, Row, Table, Each}
use Rattle.machine.specs.Earliest.{L}
use Rattle.end_laws.specs.Ends.{Side, left, right, end, Letters, nothing, one, several, Ends, join, value, stuck}

-- The longest common prefix of the set is empty, or the longest common suffix.
abbrev pub NoCommon : {I : Type 0} → Side → (I → Option Word) → Type 0
NoCommon left X = NoPrefix X
NoCommon right X = NoSuffix X

-- Some word of the set has this end.
abbrev pub Ending : {I : Type 0} → Side → (I → Option Word) → Option ℕ → Type 0
Ending side X o = (w : Word) × Holds X w × (end side w ≡ o)

-- The letter is among the letters.
abbrev pub Among : ℕ → Letters → Type 0
Among a nothing = ⊥
Among a (one b) = a ≡ b
Among a several = Unit {0}

-- An end that a summary allows.
abbrev pub Allows : Ends → Option ℕ → Type 0
Allows x none = x.empty ≡ true
Allows x (some a) = Among a x.letters

-- A word fits a summary at a side: if it is empty then the summary has the empty word, and if it ends in a letter there,
-- that letter is among the summary's.
abbrev pub Fits : Side → Word → Ends → Type 0
Fits side w x = Allows x (end side w)

-- The letters are shown by ends that P has: one by itself, several by two different ones.
abbrev pub ShownLetters : (Option ℕ → Type 0) → Letters → Type 0
ShownLetters P nothing = Unit {0}
ShownLetters P (one a) = P (some a)
ShownLetters P several = (a : ℕ) × (b : ℕ) × (a ≢ b) × P (some a) × P (some b)

-- Each claim of a summary is shown by ends that P has.
pub record Shown (P : Option ℕ → Type 0) (x : Ends) : Type 0 where
  pub empty : x.empty ≡ true → P none
  pub letters : ShownLetters P x.letters

-- Each claim about each state is shown by a word of the state.
abbrev pub Witnessed : Table → Side → (ℕ → Ends) → Type 0
Witnessed M side K = (q : ℕ) → Shown (Ending side (L M q)) (K q)

-- Every word of each state fits the state's summary.
abbrev pub Covering : Table → Side → (ℕ → Ends) → Type 0
Covering M side K = (q : ℕ) (w : Word) → Holds (L M q) w → Fits side w (K q)

-- The row adds nothing to its state's summary.
abbrev pub Settled : Side → (ℕ → Ends) → Row → Type 0
Settled side K row = join (K row.state) (value side K row.rule) ≡ K row.state

-- No row adds anything.
abbrev pub Closed : Table → Side → (ℕ → Ends) → Type 0
Closed M side K = (i : ℕ) (row : Row) → get_elem? M.rows i ≡ some row → Settled side K row

-- No child of the rest of a rule has a word behind it that can be pushed to its left, by its state's summary.
abbrev pub Unstuck : (ℕ → Ends) → List Child → Type 0
Unstuck K cs = Each (λ c ds. stuck (K c.state) c.after ≡ false) cs

-- The states of the rest of a rule have no common prefix.
abbrev pub Apart : Table → List Child → Type 0
Apart M cs = Each (λ c ds. NoPrefix (L M c.state)) cs
