-- Fields of a frame, from left to right: 5 if a byte is lacking, 4 if out of range. Definitions only.
use Rattle.std.specs.Prelude.{Bool, true, false, List, [], ◌∷◌, ℕ, zero, suc, leb, ltb, length, take, drop}
use Rattle.words.specs.Word.{Word}
use Rattle.machine.specs.Machine.{Child}
use Rattle.text.specs.Limits.{letters_most}

-- What reading a field gives: its value and the bytes behind it, or a number of no.
pub data Parsed (A : Type 0) : Type 0 where
  got : A → List ℕ → Parsed A
  fault : ℕ → Parsed A

-- A field's reader takes the bytes that are left of the frame.
abbrev pub Field : Type 0 → Type 0
Field A = List ℕ → Parsed A

-- What was read, and then what is read behind it; a number of no stays.
abbrev pub and_then : {A B : Type 0} → Parsed A → (A → Field B) → Parsed B
and_then (got a bs) k = k a bs
and_then (fault n) k = fault n

-- One field and then what is read behind it.
infixr 55 ◌>>=◌
abbrev pub ◌>>=◌ : {A B : Type 0} → Field A → (A → Field B) → Field B
◌>>=◌ p k = λ bs. and_then (p bs) k

-- Nothing more is read.
abbrev pub pure : {A : Type 0} → A → Field A
pure a = λ bs. got a bs

-- Number n unless the test holds; nothing is read.
abbrev pub check : Bool → ℕ → Field (Unit {0})
check true n = λ bs. got tt bs
check false n = λ bs. fault n

-- A byte: 5 if it is lacking.
abbrev pub byte : Field ℕ
byte [] = fault 5
byte (b ∷ bs) = got b bs

-- A number from `least` to `most`: 4 if it is beyond its range.
unfoldable pub within : ℕ → ℕ → Field ℕ
within least most = do
  b ← byte
  t ← check (leb least b) 4
  s ← check (leb b most) 4
  pure b

-- A state below the number of states, or a symbol below the number of symbols: 4 if it is not.
unfoldable pub below : ℕ → Field ℕ
below n = do
  b ← byte
  t ← check (ltb b n) 4
  pure b

-- The n letters that come next: 5 if one is lacking.
unfoldable pub letters : ℕ → Field Word
letters n bs = elim (leb n (length bs)) [ true ↦ got (take n bs) (drop n bs) | false ↦ fault 5 ]

-- A word is its length in one byte and then its letters.
unfoldable pub text : Field Word
text = do
  n ← within 0 letters_most
  letters n

-- For each of k children its state and a word.
unfoldable pub children : ℕ → ℕ → Field (List Child)
children states zero = pure []
children states (suc k) = do
  q ← below states
  u ← text
  cs ← children states k
  pure (record { state = q; after = u } ∷ cs)
