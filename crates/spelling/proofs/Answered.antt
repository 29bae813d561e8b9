-- What a call answers that writes bytes to the front of a room: a refusal, 12, or the bytes.
use mathlib.Core.Path.{◌≡◌, refl, sym, ap, ◌∙◌}
use mathlib.Core.List.{List, ◌++◌}
use mathlib.Core.Logic.{inr}
use Prim.Native.Nat.{ℕ, ◌<◌, ◌≤◌}
use lib.ListN.{length, drop}
use Rattle.words.specs.declared.No.{No}
use Rattle.words.specs.Reply.{Reply, given, refusal, refused, mapped}
use Rattle.promises.specs.Room.{into, filled}
use Rattle.promises.proofs.Room.{into_given, into_refused}
use Rattle.spelling.specs.Spells.{Spells}

module _ (R : List ℕ) {o : Reply (List ℕ)} where
  -- A refusal is handed on.
  pub spells_refused : {x : No} {r : Reply ℕ} → o ≡ refusal x → r ≡ refusal x → Spells (into (length R) o) R R r
  spells_refused e f =
      record {
        answer = f ∙ sym (ap (λ (z : Reply (List ℕ)). mapped length (into (length R) z)) e);
        room = sym (ap (λ (z : Reply (List ℕ)). filled R (into (length R) z)) e);
      }

  module _ {bs : List ℕ} (e : o ≡ given bs) where
    -- The room is too short for the bytes.
    pub spells_short : {k : ℕ} → length R < k → k ≡ length bs → Spells (into (length R) o) R R (refused 12 k)
    spells_short {k} h l =
        let longer : length R < length bs = rw l at h in
        let i = (into_refused (length R) o 12 k).1 (inr (record { out = bs; there = e; longer = longer; number = refl; place = l })) in
        record { answer = sym (ap (mapped length) i); room = sym (ap (filled R) i) }

    -- The bytes, and behind them the room as it was.
    pub spells_bytes : {R' : List ℕ} {k : ℕ} → k ≤ length R → k ≡ length bs → R' ≡ bs ++ drop k R → Spells (into (length R) o) R R' (given k)
    spells_bytes {R'} {k} h l f =
        let fits : length bs ≤ length R = rw l at h in
        let i = (into_given (length R) o bs).1 (e, fits) in
        record {
          answer = ap (λ (n : ℕ). given n) l ∙ sym (ap (mapped length) i);
          room = f ∙ ap (λ (n : ℕ). bs ++ drop n R) l ∙ sym (ap (filled R) i);
        }
