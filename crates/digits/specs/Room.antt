-- Writing into a room that the caller lends. Definitions only.
use Rattle.std.specs.Prelude.{◌≡◌, List, ℕ, ◌+◌, length}
use Rattle.std.proofs.lemmas.List.Edits.{sets}

-- The bytes ws were written into the room R from `at` on, those alone that have a place there; S is the room after, and `next` stands behind the last.
pub record Wrote (R : List ℕ) (at : ℕ) (ws S : List ℕ) (next : ℕ) : Type 0 where
  pub bytes : S ≡ sets R at ws
  pub end : next ≡ at + length ws
