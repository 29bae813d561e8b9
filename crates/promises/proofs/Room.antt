-- What is told of an output with so much room, and what the room holds after it. Assumes nothing.
use mathlib.Core.Path.{◌≡◌, refl, sym, ap, ◌∙◌}
use mathlib.Core.List.{List}
use mathlib.Core.Logic.{◌⊎◌, inl, inr, ⊎_elim, ◌↔◌}
use Prim.Native.Nat.{ℕ, ◌<◌, ◌≤◌}
use native.Mathlib.Omega.{arith}
use borrow.Author.Tests.{ltb-true, ltb-false, lt-ltb, le-ltb}
use lib.Dec.{ltb}
use lib.ListN.{length, take, drop, length-append, length-drop, take-append-drop}
use lib.Seq.{take-append_seam, drop-append_seam}
use Rattle.words.specs.Reply.{Reply, given, refused}
use Rattle.words.proofs.Replies.{given_refused, given_injective, refuse_given, refuse_refused, then_given, then_refused}
use Rattle.promises.specs.Room.{into, filled}

-- An output is given exactly if there is one and it has room.
pub into_given : (room : ℕ) (a : Reply (List ℕ)) (out : List ℕ) → (into room a ≡ given out) ↔ ((a ≡ given out) × (length out ≤ room))
into_given room a out = (there, λ h. rw (h.0, le-ltb room (length out) h.1))
  where
    there : into room a ≡ given out → (a ≡ given out) × (length out ≤ room)
    there e =
        let i = then_given a _ out e in
        let j = refuse_given (ltb room (length i.0)) _ _ _ out i.2 in
        let x : i.0 ≡ out = given_injective i.0 out j.1 in
        (i.1 ∙ ap given x, omega (arith, ltb-false room (length i.0) j.0, ap length x))

-- The output that is there is longer than the room, and n is 12 with the length needed for its place.
pub record TooLong (room : ℕ) (a : Reply (List ℕ)) (n p : ℕ) : Type 0 where
  pub out : List ℕ
  pub there : a ≡ given out
  pub longer : room < length out
  pub number : n ≡ 12
  pub place : p ≡ length out

-- A refusal is that of the output, or 12 for one that is longer than the room.
pub into_refused : (room : ℕ) (a : Reply (List ℕ)) (n p : ℕ) → (into room a ≡ refused n p) ↔ ((a ≡ refused n p) ⊎ TooLong room a n p)
into_refused room a n p = (there, back)
  where
    there : into room a ≡ refused n p → (a ≡ refused n p) ⊎ TooLong room a n p
    there e =
        ⊎_elim (λ i. inl i)
        (λ i. ⊎_elim (λ j. inr (record { out = i.0; there = i.1; longer = ltb-true room (length i.0) j.0; number = j.1; place = j.2 }))
        (λ j. absurd (given_refused i.0 n p j.1))
        (refuse_refused (ltb room (length i.0)) _ _ _ n p i.2))
        (then_refused a _ n p e)

    back : (a ≡ refused n p) ⊎ TooLong room a n p → into room a ≡ refused n p
    back (inl e) = rw e
    back (inr h) = rw (h.there, lt-ltb room (length h.out) h.longer, h.number, h.place)

-- After a yes the first bytes are the output and the others are as they were, and nothing else is a room after it.
pub filled_given : (room after out : List ℕ)
    → (after ≡ filled room (given out)) ↔ ((take (length out) after ≡ out) × (drop (length out) after ≡ drop (length out) room))
filled_given room after out = (
  λ e. (rw e (take-append_seam out _), rw e (drop-append_seam out _)),
  λ h. sym (take-append-drop (length out) after) ∙ rw (h.0, h.1),
)

-- The room keeps its length where the output fits.
pub filled_length : (room out : List ℕ) → length out ≤ length room → length (filled room (given out)) ≡ length room
filled_length room out h = simp (length-append, length-drop) (omega arith)

-- After a no the room is as it was.
pub filled_refused : (room : List ℕ) (n p : ℕ) → filled room (refused n p) ≡ room
filled_refused room n p = refl
