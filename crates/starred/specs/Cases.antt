-- The starred cases as one table, and what it means that a case holds. Definitions only.
use Rattle.std.specs.Prelude.{◌≡◌, List, [], ◌∷◌, ◌++◌, ℕ, length, replicate}
use Rattle.words.specs.Word.{Word}
use Rattle.words.specs.Reply.{given, refused}
use Rattle.machine.specs.Verdict.{Verdict, earliest, late}
use Rattle.promises.specs.Word.{word_answer, word_room, letters_of}
use Rattle.promises.specs.Judgement.{JudgementAnswer}
use Rattle.promises.specs.Form.{FormText}
use Rattle.starred.specs.Texts.{T, T_form, M1, M1_earliest, M2, turn, M2_earliest, M2_form, counting, letters_32, letters_33}

-- A table text, tree bytes and the room lent, with the word and its number of terms and the room after; or with the number of no and its place.
-- A table text with its verdict. A table text with its form's text.
pub data Case : Type 0 where
  word : List ℕ → List ℕ → List ℕ → Word → ℕ → List ℕ → Case
  no_word : List ℕ → List ℕ → List ℕ → ℕ → ℕ → Case
  verdict : List ℕ → Verdict → Case
  form : List ℕ → List ℕ → Case

-- What a case says of the definitions.
abbrev pub CaseHolds : Case → Type 0
CaseHolds (word text tree room w n room') =
    (word_answer text tree (length room) ≡ given w) × (letters_of w ≡ record { length = length w; terms = n }) × (word_room text tree room ≡ room')
CaseHolds (no_word text tree room n p) = (word_answer text tree (length room) ≡ refused n p) × (word_room text tree room ≡ room)
CaseHolds (verdict text v) = JudgementAnswer text v
CaseHolds (form text out) = FormText text (given out)

-- A room of five bytes.
abbrev pub five : List ℕ
five = 1 ∷ 2 ∷ 3 ∷ 4 ∷ 5 ∷ []

-- The letters abcac.
abbrev pub abcac : Word
abcac = 0x61 ∷ 0x62 ∷ 0x63 ∷ 0x61 ∷ 0x63 ∷ []

-- The cases in the specification's order, the listing first.
abbrev pub cases : List Case
cases =
    form T T_form
    ∷ word T (0x00 ∷ 0x02 ∷ 0x01 ∷ []) five (0x78 ∷ 0x2c ∷ []) 1 (0x78 ∷ 0x2c ∷ 3 ∷ 4 ∷ 5 ∷ [])
    ∷ word T (0x00 ∷ 0x02 ∷ 0x02 ∷ []) five (0x78 ∷ 0x2c ∷ 0x78 ∷ []) 1 (0x78 ∷ 0x2c ∷ 0x78 ∷ 4 ∷ 5 ∷ [])
    ∷ no_word T (0x00 ∷ 0x02 ∷ []) five 8 2
    ∷ no_word T (0x01 ∷ []) five 9 0
    ∷ no_word T (0x01 ∷ 0x01 ∷ []) five 11 1
    ∷ no_word T (0x03 ∷ []) five 7 0
    ∷ no_word T (0x00 ∷ 0x01 ∷ 0x01 ∷ []) [] 12 1
    ∷ word T (0x00 ∷ 0x01 ∷ 0x01 ∷ []) (9 ∷ []) (0x2c ∷ []) 1 (0x2c ∷ [])
    ∷ word M1 (0x00 ∷ 0x01 ∷ 0x02 ∷ 0x02 ∷ []) five abcac 1 abcac
    ∷ word M1 (0x00 ∷ 0x02 ∷ 0x02 ∷ []) five (0x61 ∷ 0x63 ∷ []) 1 (0x61 ∷ 0x63 ∷ 3 ∷ 4 ∷ 5 ∷ [])
    ∷ verdict M1 (late 15 0)
    ∷ verdict M1_earliest earliest
    ∷ word M2 (0x00 ∷ 0x01 ∷ 0x02 ∷ 0x02 ∷ []) five (0x61 ∷ 0x61 ∷ 0x62 ∷ []) 1 (0x61 ∷ 0x61 ∷ 0x62 ∷ 4 ∷ 5 ∷ [])
    ∷ verdict M2 (late 18 0)
    ∷ word turn (0x00 ∷ 0x01 ∷ 0x01 ∷ 0x02 ∷ []) five (0x62 ∷ 0x62 ∷ 0x61 ∷ []) 1 (0x62 ∷ 0x62 ∷ 0x61 ∷ 4 ∷ 5 ∷ [])
    ∷ verdict turn earliest
    ∷ []

-- The cases without a star, in the specification's order. The turn table's chain of a has depth 64, and then 65.
abbrev pub others : List Case
others =
    verdict M2_earliest earliest
    ∷ form M2_earliest M2_form
    ∷ word counting (0x00 ∷ 0x00 ∷ 0x01 ∷ 0x02 ∷ 0x01 ∷ []) five (replicate 5 0x63) 1 (replicate 5 0x63)
    ∷ word turn (replicate 63 0x00 ++ 0x02 ∷ []) (replicate 63 0) (replicate 63 0x61) 1 (replicate 63 0x61)
    ∷ no_word turn (replicate 64 0x00 ++ 0x02 ∷ []) five 10 64
    ∷ word letters_32 (0x00 ∷ []) (replicate 32 0) (replicate 32 0x61) 1 (replicate 32 0x61)
    ∷ no_word letters_33 (0x00 ∷ []) five 4 5
    ∷ []

-- Every case of a list holds.
abbrev pub AllHold : List Case → Type 0
AllHold [] = Unit {0}
AllHold (c ∷ cs) = CaseHolds c × AllHold cs
