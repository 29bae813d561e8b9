-- Places in the order of rows: which row rises over the rows so far.
use mathlib.Core.Path.{◌≡◌, refl}
use mathlib.Core.Bool.{true, false}
use mathlib.Core.List.{List, [], ◌∷◌, ◌++◌}
use Prim.Native.Nat.{ℕ, ◌+◌, ◌*◌, ◌<◌, ◌≤◌}
use native.Mathlib.Omega.{arith}
use native.Mathlib.Decide.{dec_lt}
use borrow.Author.Tests.{lt-ltb, le-ltb, eq-eqb, ne_eqb}
use lib.Dec.{eqb, ltb}
use Rattle.words.proofs.Tests.{second_fails}
use Rattle.machine.specs.Machine.{Row, Every}
use Rattle.text.specs.Frames.{behind_row, rises}
use Rattle.head_frames.specs.Staged.{key, last_key}

-- The rows stand before place n, and their symbols are below 64.
abbrev AllBefore : ℕ → List Row → Type 0
AllBefore n rows = Every (λ r. (r.symbol < 64) × (key r < n)) rows

module _ (r : Row) (q f : ℕ) (hr : r.symbol < 64) (hf : f < 64) where
  -- A place behind a row's place rises over the row.
  behind_true : key r < q * 64 + f → behind_row r q f ≡ true
  behind_true h = go (dec_lt r.state q)
    where
      go : Dec (r.state < q) → behind_row r q f ≡ true
      go (yes k) = rw (lt-ltb r.state q k)
      go (no k) =
          let s : r.state ≡ q = omega arith in
          rw (le-ltb r.state q (omega arith), eq-eqb r.state q s, lt-ltb r.symbol f (omega arith))

  -- A row's own place and those before it do not.
  behind_false : q * 64 + f ≤ key r → behind_row r q f ≡ false
  behind_false h = go (dec_lt r.symbol f)
    where
      go : Dec (r.symbol < f) → behind_row r q f ≡ false
      go (yes k) = rw (le-ltb r.state q (omega arith), ne_eqb r.state q (λ e. omega arith))
      go (no k) = rw (le-ltb r.state q (omega arith)) (second_fails (eqb r.state q) (ltb r.symbol f) (le-ltb r.symbol f (omega arith)))

-- A place that is not before n rises over rows that are.
pub rises_true : (rows : List Row) (q f n : ℕ) → AllBefore n rows → f < 64 → n ≤ q * 64 + f → rises rows q f ≡ true
rises_true [] q f n h hf k = refl
rises_true (r ∷ []) q f n h hf k = behind_true r q f h.0.0 hf (omega (arith, h.0.1))
rises_true (r ∷ s ∷ rows) q f n h hf k = rises_true (s ∷ rows) q f n h.1 hf k

-- A place before the least behind the rows does not rise.
pub rises_false : (rows : List Row) (q f n : ℕ) → AllBefore n rows → n ≡ last_key rows → f < 64 → q * 64 + f < n → rises rows q f ≡ false
rises_false [] q f n h e hf k = absurd (omega arith)
rises_false (r ∷ []) q f n h e hf k = behind_false r q f h.0.0 hf (omega arith)
rises_false (r ∷ s ∷ rows) q f n h e hf k = rises_false (s ∷ rows) q f n h.1 e hf k

-- The least place behind a last row is the one behind its own.
pub last_snoc : (rows : List Row) (r : Row) → last_key (rows ++ r ∷ []) ≡ key r + 1
last_snoc [] r = refl
last_snoc (s ∷ []) r = refl
last_snoc (s ∷ t ∷ rows) r = last_snoc (t ∷ rows) r

-- One row more, behind the others.
pub before_snoc : (rows : List Row) (r : Row) (n : ℕ) → AllBefore n rows → n ≤ key r → r.symbol < 64 → AllBefore (key r + 1) (rows ++ r ∷ [])
before_snoc [] r n h k l = ((l, omega arith), tt)
before_snoc (s ∷ rows) r n h k l = ((h.0.0, omega (arith, h.0.1)), before_snoc rows r n h.1 k l)
