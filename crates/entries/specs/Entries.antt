-- The number and the entries of each answer of the paper: the number is 0 for a yes, and the rest is one array of eight entries. Definitions only.
use Rattle.std.specs.Prelude.{List, [], ◌∷◌, ℕ}
use Rattle.words.specs.declared.No.{No}
use Rattle.words.specs.Reply.{Reply, given, refusal}
use Rattle.machine.specs.Verdict.{Verdict, earliest, late_as}
use Rattle.promises.specs.Word.{WordCounts}
use Rattle.promises.specs.Comparison as paper
use Rattle.promises.specs.Comparison.{Comparison}

-- The entries of an answer: a no's place, a length, a number of terms, 1 for same, the table that a no is about; three are kept for later calls.
abbrev pub eight : ℕ → ℕ → ℕ → ℕ → ℕ → List ℕ
eight place length terms same table = place ∷ length ∷ terms ∷ same ∷ table ∷ 0 ∷ 0 ∷ 0 ∷ []

-- The entries of a yes that holds nothing, and of a no about table t, which is 0 but in comparisons.
abbrev pub blank : List ℕ
blank = eight 0 0 0 0 0

abbrev pub no_entries : ℕ → No → List ℕ
no_entries t x = eight x.place 0 0 0 t

-- The number of an answer: 0 for a yes.
abbrev pub number_of : {A : Type 0} → Reply A → ℕ
number_of (given a) = 0
number_of (refusal x) = x.number

-- The entries of an answer, by those of a yes.
abbrev pub entries_of : {A : Type 0} → (A → List ℕ) → Reply A → List ℕ
entries_of entries (given a) = entries a
entries_of entries (refusal x) = no_entries 0 x

-- The entries of a word's letters, and of so many bytes of a form.
abbrev pub letters_entries : WordCounts → List ℕ
letters_entries l = eight 0 l.length l.terms 0 0

abbrev pub length_entries : ℕ → List ℕ
length_entries n = eight 0 n 0 0 0

-- The number and the entries of a verdict: 0 for earliest.
abbrev pub verdict_number : Verdict → ℕ
verdict_number earliest = 0
verdict_number (late_as x) = x.number

abbrev pub verdict_entries : Verdict → List ℕ
verdict_entries earliest = blank
verdict_entries (late_as x) = no_entries 0 x

-- The number and the entries of a comparison's answer: 0 for same and for different, which the entries tell apart.
abbrev pub comparison_number : Comparison → ℕ
comparison_number paper.same = 0
comparison_number paper.different = 0
comparison_number (paper.refusal t x) = x.number

abbrev pub comparison_entries : Comparison → List ℕ
comparison_entries paper.same = eight 0 0 0 1 0
comparison_entries paper.different = blank
comparison_entries (paper.refusal t x) = no_entries t x
