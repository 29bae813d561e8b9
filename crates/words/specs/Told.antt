-- What the answer of a test says. Definitions only.
use Rattle.std.specs.Prelude.{◌≡◌, Bool, true, false}

-- A test's answer tells whether A holds.
pub record Told (A : Type 0) (r : Bool) : Type 0 where
  pub if_true : r ≡ true → A
  pub if_false : r ≡ false → A → ⊥
