-- The lines of the form's states, one state after the other.
use mathlib.Core.Path.{◌≡◌, sym, ap, ap₂, ◌∙◌}
use mathlib.Core.List.{List, [], ◌∷◌, ◌++◌, map, append_assoc, append-nil}
use Prim.Native.Nat.{ℕ, zero, suc, ◌+◌, ◌<◌}
use native.Mathlib.Nat.{add-zero}
use native.Mathlib.Numerals.{add-one}
use native.Mathlib.Omega.{arith}
use lib.ListN.{length, get_or, take}
use lib.Seq.{take-suc, length-take-le}
use Rattle.machine.specs.Machine.{Row}
use Rattle.machine.specs.Form.{rows_of, renumber, renumbered}
use Rattle.text.specs.Writing.{row_lines}
use Rattle.text.proofs.Stages.{rows_append}

-- The rows of two lists of states, one behind the other.
renumbered_append : (number : ℕ → ℕ) (rows : List Row) (i : ℕ) (xs ys : List ℕ)
    → renumbered number rows i (xs ++ ys) ≡ renumbered number rows i xs ++ renumbered number rows (i + length xs) ys
unfolding renumbered
renumbered_append number rows i [] ys = ap (λ (k : ℕ). renumbered number rows k ys) (sym (add-zero i))
renumbered_append number rows i (x ∷ xs) ys =
    ap (λ (l : List Row). map (renumber number i) (rows_of rows x) ++ l)
    (renumbered_append number rows (suc i) xs ys ∙ ap (λ (k : ℕ). renumbered number rows (suc i) xs ++ renumbered number rows k ys) place)
    ∙ sym (append_assoc (map (renumber number i) (rows_of rows x)) (renumbered number rows (suc i) xs) (renumbered number rows (i + suc (length xs)) ys))
  where
    place : suc i + length xs ≡ i + suc (length xs)
    place = omega arith

-- The lines of one state more.
pub states_more : (number : ℕ → ℕ) (rows : List Row) (O : List ℕ) (i q : ℕ) → i < length O → q ≡ get_or O i 0
    → row_lines (renumbered number rows zero (take i O)) ++ row_lines (map (renumber number i) (rows_of rows q))
    ≡ row_lines (renumbered number rows zero (take (i + 1) O))
unfolding renumbered
states_more number rows O i q h e =
    sym
    (ap (λ (k : ℕ). row_lines (renumbered number rows zero (take k O))) (add-one i)
    ∙ ap (λ (l : List ℕ). row_lines (renumbered number rows zero l)) (take-suc O i 0 h)
    ∙ ap row_lines (renumbered_append number rows zero (take i O) (get_or O i 0 ∷ []))
    ∙ ap₂ (λ (k p : ℕ). row_lines (renumbered number rows zero (take i O) ++ (map (renumber number k) (rows_of rows p) ++ []))) place (sym e)
    ∙ ap (λ (l : List Row). row_lines (renumbered number rows zero (take i O) ++ l)) (append-nil (map (renumber number i) (rows_of rows q)))
    ∙ rows_append (renumbered number rows zero (take i O)) (map (renumber number i) (rows_of rows q)))
  where
    place : zero + length (take i O) ≡ i
    place = omega (arith, length-take-le i O (omega arith))
