-- Bytes that begin with a text. Definitions only.
use Rattle.std.specs.Prelude.{◌≡◌, List, ◌++◌, ℕ, length}

-- The bytes X begin with x, which has n bytes.
pub record BeginsWith (X : List ℕ) (n : ℕ) (x : List ℕ) : Type 0 where
  pub count : n ≡ length x
  pub behind : List ℕ
  pub bytes : X ≡ x ++ behind
