-- Rows that rise: what the test before a row tells, and what makes it hold.
use mathlib.Core.Path.{◌≡◌, refl}
use mathlib.Core.Bool.{Bool, true, false, ◌&&◌, ◌||◌}
use mathlib.Core.Logic.{◌⊎◌, inl, inr}
use mathlib.Core.List.{List, [], ◌∷◌, ◌++◌}
use borrow.Author.Tests.{ltb-true, eqb-true, lt-ltb, eq-eqb}
use lib.Dec.{ltb, eqb}
use Rattle.words.proofs.Tests.{both_hold, one_holds}
use Rattle.machine.specs.Machine.{Row, Before, Rising}
use Rattle.text.specs.Frames.{behind_row, rises}

or_left : (a b : Bool) → a ≡ true → (a || b) ≡ true
or_left a b e = rw e

or_right : (a b : Bool) → b ≡ true → (a || b) ≡ true
or_right true b e = refl
or_right false b e = e

-- The test between two rows holds if the first stands before the second.
before_behind : (r s : Row) → Before r s → behind_row r s.state s.symbol ≡ true
before_behind r s (inl h) = or_left (ltb r.state s.state) _ (lt-ltb r.state s.state h)
before_behind r s (inr h) =
    or_right (ltb r.state s.state) _ (rw (eq-eqb r.state s.state h.0, lt-ltb r.symbol s.symbol h.1))

-- And only then.
behind_before : (r s : Row) → behind_row r s.state s.symbol ≡ true → Before r s
behind_before r s e = go (one_holds (ltb r.state s.state) (eqb r.state s.state && ltb r.symbol s.symbol) e)
  where
    go : (ltb r.state s.state ≡ true) ⊎ ((eqb r.state s.state && ltb r.symbol s.symbol) ≡ true) → Before r s
    go (inl h) = inl (ltb-true r.state s.state h)
    go (inr h) =
        let x = both_hold (eqb r.state s.state) (ltb r.symbol s.symbol) h in
        inr (eqb-true r.state s.state x.0, ltb-true r.symbol s.symbol x.1)

-- A row that rises over rising rows makes rising rows.
pub rising_snoc : (rs : List Row) (r : Row) → Rising rs → rises rs r.state r.symbol ≡ true → Rising (rs ++ r ∷ [])
rising_snoc [] r h e = tt
rising_snoc (s ∷ []) r h e = (behind_before s r e, tt)
rising_snoc (s ∷ s' ∷ rs) r h e = (h.0, rising_snoc (s' ∷ rs) r h.1 e)

-- In rising rows each row rises over those before it.
pub rising_rises : (rs : List Row) (r : Row) (more : List Row) → Rising (rs ++ r ∷ more) → rises rs r.state r.symbol ≡ true
rising_rises [] r more h = refl
rising_rises (s ∷ []) r more h = before_behind s r h.0
rising_rises (s ∷ s' ∷ rs) r more h = rising_rises (s' ∷ rs) r more h.1
