-- Reading a stream with a count and a flag in place of the elements read; c is the byte that closes. Definitions only.
use Rattle.std.specs.Prelude.{Bool, true, false, not, List, [], ◌∷◌, ℕ, zero, suc, eqb, ltb, length}
use Rattle.words.specs.Reply.{Reply, given, refused, ◌then◌, refuse_if}

-- How many elements are open, and whether something was read.
pub record StreamMarks : Type 0 where
  pub open_now : ℕ
  pub begun : Bool

abbrev pub marks : ℕ → Bool → StreamMarks
marks n b = record { open_now = n; begun = b }

-- A close: 22 with nothing open.
abbrev pub closing# : ℕ → ℕ → Reply StreamMarks
closing# zero p = refused 22 p
closing# (suc n) p = given (marks n true)

-- A label: 23 with nothing open and something read.
abbrev pub opening# : ℕ → Bool → ℕ → Reply StreamMarks
opening# zero true p = refused 23 p
opening# zero false p = given (marks 1 true)
opening# (suc n) b p = given (marks (suc (suc n)) true)

-- Byte b at place p: a close, or 21 if it is not below a either, or a label.
abbrev pub step# : ℕ → ℕ → StreamMarks → ℕ → ℕ → Reply StreamMarks
step# c a m p b =
    elim (eqb b c) [ true ↦ closing# m.open_now p | false ↦ refuse_if (not (ltb b a)) 21 p (opening# m.open_now m.begun p) ]

-- The end: 22 if something is open or nothing was read.
abbrev pub ending# : ℕ → Bool → ℕ → Reply (Unit {0})
ending# zero true p = given tt
ending# zero false p = refused 22 p
ending# (suc n) b p = refused 22 p

-- The marks behind some bytes more, the first of them at place p.
unfoldable pub marks_from : ℕ → ℕ → StreamMarks → ℕ → List ℕ → Reply StreamMarks
marks_from c a m p [] = given m
marks_from c a m p (b ∷ bs) = step# c a m p b then λ m'. marks_from c a m' (suc p) bs

-- The marks of a stream from its beginning on.
unfoldable pub marks_of : ℕ → ℕ → List ℕ → Reply StreamMarks
marks_of c a bs = marks_from c a (marks 0 false) 0 bs

-- What is told of a whole stream: that it is a record's, or its refusal.
unfoldable pub check_stream : ℕ → ℕ → List ℕ → Reply (Unit {0})
check_stream c a bs = marks_of c a bs then λ m. ending# m.open_now m.begun (length bs)
