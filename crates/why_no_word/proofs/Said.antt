-- What each answer says of the room and of an answer of the definition. Assumes nothing.
use mathlib.Core.Path.{◌≡◌, refl, sym, ap, ◌∙◌}
use mathlib.Core.List.{List, ◌++◌}
use Prim.Native.Nat.{ℕ, ◌<◌, ◌≤◌}
use native.Mathlib.Omega.{arith}
use borrow.Author.Tests.{lt-ltb, le-ltb}
use lib.ListN.{length, take, drop}
use lib.Seq.{take_at}
use Rattle.words.specs.Word.{Word, terms}
use Rattle.words.specs.Reply.{Reply, given, refused}
use Rattle.promises.specs.Room.{into}
use Rattle.why_no_word.specs.declared.Letters.{Letters}
use Rattle.why_no_word.specs.Answer.{Answers}

-- A refusal with the definition's number and place, and the room as it was.
pub refused_said : {a : Reply Word} {r : Reply Letters} (R : List ℕ) (n p : ℕ) → a ≡ refused n p → r ≡ refused n p
    → Answers a R R r
refused_said {a} {r} R n p e er = rw (e, er) (record { answer = refl; room = refl })

-- In a room that is shorter than the output the answer is 12 with the length needed.
pub short_said : {r : Reply Letters} (R out : List ℕ) (n : ℕ) → n ≡ length out → length R < n → r ≡ refused 12 n
    → Answers (into (length R) (given out)) R R r
short_said R out n e h er =
    let i : length R < length out = omega arith in
    refused_said R 12 n (rw (lt-ltb (length R) (length out) i, e)) er

-- In a room that is long enough the answer is the output's length and terms, and the output stands first in the room.
pub word_said : {r : Reply Letters} (R R' out : List ℕ) (n k : ℕ) → n ≡ length out → k ≡ terms (take n R') → n ≤ length R
    → r ≡ given (record { length = n; terms = k }) → R' ≡ out ++ drop (length out) R → Answers (into (length R) (given out)) R R' r
word_said R R' out n k e s h er room =
    let i : length out ≤ length R = omega arith in
    let front : take n R' ≡ out = ap (take n) room ∙ take_at out (drop (length out) R) n (sym e) in
    rw (le-ltb (length R) (length out) i, er) (record { answer = rw (s, front, e); room = room })
