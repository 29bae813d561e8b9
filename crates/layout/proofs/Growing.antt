-- How the frames grow.
use mathlib.Core.Path.{◌≡◌, refl, sym, ap, ◌∙◌}
use mathlib.Core.List.{List, [], ◌∷◌, ◌++◌, append_assoc, append-nil}
use Prim.Native.Nat.{ℕ}
use Rattle.machine.specs.Machine.{Row}
use Rattle.text.specs.Writing.{row_frame}
use Rattle.layout.specs.Layout.{symbol_frames, row_frames}

-- One symbol more, one frame more.
pub symbols_more : (xs : List ℕ) (a : ℕ) → symbol_frames (xs ++ a ∷ []) ≡ symbol_frames xs ++ 1 ∷ a ∷ []
unfolding symbol_frames
symbols_more [] a = refl
symbols_more (x ∷ xs) a = ap (λ (l : List ℕ). 1 ∷ x ∷ l) (symbols_more xs a)

-- One row more, one frame more.
pub rows_more : (rows : List Row) (r : Row) → row_frames (rows ++ r ∷ []) ≡ row_frames rows ++ row_frame r
unfolding row_frames
rows_more [] r = append-nil (row_frame r)
rows_more (x ∷ rows) r = ap (λ (l : List ℕ). row_frame x ++ l) (rows_more rows r) ∙ sym (append_assoc (row_frame x) (row_frames rows) (row_frame r))
