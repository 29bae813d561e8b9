-- What reading a field at a place of the decoded bytes answers. Definitions only.
use Rattle.std.specs.Prelude.{◌≡◌, Result, Ok, Err, List, ℕ, ◌+◌, ◌*◌, ◌^◌, ◌≤◌, ◌<◌, length, get_or}
use Rattle.std.proofs.Math.Seq.{slice}
use Rattle.words.specs.Word.{Word}
use Rattle.machine.specs.Machine.{Child}
use Rattle.text.specs.Fields as text
use Rattle.text.specs.Fields.{Parsed, got, fault, ◌>>=◌, pure}
use Rattle.layout.specs.Layout.{rest_letters, kids_packed}
use Rattle.fields.specs.declared.OneChild.{OneChild}
use Rattle.fields.specs.declared.Kids.{Kids}
use Rattle.fields.specs.declared.Fault.{Fault}
use Rattle.fields.specs.declared.Fault.TheVariants.{EmptyLine, OutOfOrder, OutOfRange, WrongLength}

-- The number of no of each fault.
abbrev pub number_of : Fault → ℕ
number_of EmptyLine = 2
number_of OutOfOrder = 3
number_of OutOfRange = 4
number_of WrongLength = 5

-- What an answer says of the next byte.
pub record Byte (F : List ℕ) (at end b then : ℕ) : Type 0 where
  pub before : at < end
  pub is : b ≡ get_or F at 0
  pub next : then ≡ at + 1

abbrev pub ByteRead : List ℕ → ℕ → ℕ → ℕ → Result ℕ Fault → Type 0
ByteRead F at end then (Ok b) = Byte F at end b then
ByteRead F at end then (Err e) = (at ≡ end) × (e ≡ WrongLength)

-- The bytes left of a frame that ends at `end` are `slice at end F`. A number field: its value, and the bytes left from `next` on.
pub record Number (F bs : List ℕ) (v at end n then : ℕ) : Type 0 where
  pub value : n ≡ v
  pub left : bs ≡ slice then end F
  pub next : then ≡ at + 1
  pub inside : then ≤ end

-- What an answer says of a number field: it is read, or refused with the number that reading gives.
abbrev pub NumberRead : List ℕ → ℕ → ℕ → ℕ → Parsed ℕ → Result ℕ Fault → Type 0
NumberRead F at end then (got v bs) (Ok n) = Number F bs v at end n then
NumberRead F at end then (got v bs) (Err e) = ⊥
NumberRead F at end then (fault k) (Ok n) = ⊥
NumberRead F at end then (fault k) (Err e) = number_of e ≡ k

-- A word field: the word's length byte stands at `at`, its letters up to `next`.
pub record Stretch (F bs : List ℕ) (u : Word) (at end n then : ℕ) : Type 0 where
  pub value : n ≡ length u
  pub short : n ≤ 32
  pub word : u ≡ slice (at + 1) then F
  pub left : bs ≡ slice then end F
  pub next : then ≡ at + 1 + n
  pub inside : then ≤ end

-- What an answer says of a word field.
abbrev pub WordRead : List ℕ → ℕ → ℕ → ℕ → Parsed Word → Result ℕ Fault → Type 0
WordRead F at end then (got u bs) (Ok n) = Stretch F bs u at end n then
WordRead F at end then (got u bs) (Err e) = ⊥
WordRead F at end then (fault k) (Ok n) = ⊥
WordRead F at end then (fault k) (Err e) = number_of e ≡ k

-- A child's fields: its state and a word.
unfoldable pub one_child : ℕ → text.Field Child
one_child states = do
  q ← text.below states
  u ← text.text
  pure (record { state = q; after = u })

-- A child's state, the letters of the word behind it, and where the next field stands.
pub record ChildAt (F bs : List ℕ) (c : Child) (at end q then n : ℕ) : Type 0 where
  pub state : q ≡ c.state
  pub left : bs ≡ slice then end F
  pub next : at + 2 ≤ then
  pub inside : then ≤ end
  pub letters : n ≡ length c.after
  pub short : n ≤ 32

-- What an answer says of a child's fields.
abbrev pub ChildRead : List ℕ → ℕ → ℕ → ℕ → Parsed Child → Result OneChild Fault → Type 0
ChildRead F at end then (got c bs) (Ok r) = ChildAt F bs c at end r.state then r.letters
ChildRead F at end then (got c bs) (Err e) = ⊥
ChildRead F at end then (fault k) (Ok c) = ⊥
ChildRead F at end then (fault k) (Err e) = number_of e ≡ k

-- The children's fields: their letters, and states and count in one number.
pub record Family (F bs : List ℕ) (cs : List Child) (at end then n x : ℕ) : Type 0 where
  pub left : bs ≡ slice then end F
  pub from : at ≤ then
  pub inside : then ≤ end
  pub letters : n ≡ rest_letters cs
  pub packed : x ≡ kids_packed cs
  pub few : n ≤ 128
  pub small : x < 5 * 2 ^ 61

-- What an answer says of the children's fields.
abbrev pub KidsRead : List ℕ → ℕ → ℕ → ℕ → Parsed (List Child) → Result Kids Fault → Type 0
KidsRead F at end then (got cs bs) (Ok r) = Family F bs cs at end then r.letters r.packed
KidsRead F at end then (got cs bs) (Err e) = ⊥
KidsRead F at end then (fault k) (Ok c) = ⊥
KidsRead F at end then (fault k) (Err e) = number_of e ≡ k

-- What an answer at the end of a frame says: no byte is left from `at` on, or one is.
abbrev pub Finished : ℕ → ℕ → Result (Unit {0}) Fault → Type 0
Finished at end (Ok u) = end ≤ at
Finished at end (Err e) = (at < end) × (e ≡ WrongLength)

-- One child more, behind `done` others: what the first child's state is then.
pub record FirstAfter (done first state r : ℕ) : Type 0 where
  pub new : done ≡ 0 → r ≡ state
  pub kept : 0 < done → r ≡ first
  pub small : r < 64

-- And the states of the children behind the first in one number.
pub record RestAfter (done rest state r : ℕ) : Type 0 where
  pub kept : done ≡ 0 → r ≡ rest
  pub longer : 0 < done → r ≡ rest * 1024 + state
