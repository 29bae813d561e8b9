-- What is kept of the rows while they are read: one row more, one note more.
use mathlib.Core.Path.{◌≡◌, sym, ap, ap₂, ◌∙◌}
use mathlib.Core.List.{List, [], ◌∷◌, ◌++◌}
use Prim.Native.Nat.{ℕ, suc, ◌+◌, ◌<◌}
use native.Mathlib.Omega.{arith}
use lib.ListN.{length, take, set, length-append}
use lib.Seq.{take-suc-set}
use Rattle.machine.specs.Machine.{Row, Table}
use Rattle.text.specs.Frames as text
use Rattle.text.specs.Writing.{row_frame}
use Rattle.layout.specs.Layout.{row_frames, head_frames, entry_of, row_number}
use Rattle.head_frames.specs.Staged.{kept, note_of, Noted}
use Rattle.rule_frames.proofs.RuleStage.{head_frames_lem}
use Rattle.head_frames.specs.declared.Note.{Note}

-- One row more is noted last, with the number behind the others' and behind their frames.
kept_more : (i p : ℕ) (rows : List Row) (r : Row) → kept i p (rows ++ r ∷ []) ≡ kept i p rows ++ note_of (i + length rows) (p + length (row_frames rows) + 3) r
    ∷ []
unfolding kept row_frames
kept_more i p [] r = let number : i ≡ i + 0 = omega arith in let place : p + 3 ≡ p + 0 + 3 = omega arith in ap₂ (λ j k. note_of j k r ∷ []) number place
kept_more i p (s ∷ rows) r =
    let number : suc i + length rows ≡ i + suc (length rows) = omega arith in
    let long = length-append (row_frame s) (row_frames rows) in
    let place : p + length (row_frame s) + length (row_frames rows) + 3 ≡ p + length (row_frame s ++ row_frames rows) + 3 = omega arith in
    ap (λ l. note_of i (p + 3) s ∷ l)
    (kept_more (suc i) (p + length (row_frame s)) rows r ∙ ap₂ (λ j k. kept (suc i) (p + length (row_frame s)) rows ++ note_of j k r ∷ []) number place)

-- With the note of a row behind those of the others, the rows of the table with it are noted.
pub noted_more : (R : List Note) (M : Table) (r : Row) (n p x y : ℕ) → Noted R M → n < length R → n ≡ length M.rows
    → p ≡ length (head_frames M) + length (row_frames M.rows) + 3 → x ≡ row_number p r → y ≡ entry_of n r.rule
    → Noted (set R n (record { row = x; entry = y })) (text.with_row M r)
noted_more R M r n p x y e inside number place row entry =
    let h : ℕ = length (head_frames M) in
    let l : length (M.rows ++ r ∷ []) ≡ suc n = omega (arith, length-append M.rows (r ∷ [])) in
    let none_before : length M.rows ≡ 0 + length M.rows = omega arith in
    ap (λ m. take m (set R n (record { row = x; entry = y }))) l
    ∙ take-suc-set R n (record { row = x; entry = y }) inside
    ∙ ap₂ (λ m t. take m R ++ t ∷ []) number (ap₂ (λ u v. record { row = u; entry = v }) row entry)
    ∙ ap₂ (λ u t. u ++ t ∷ []) e (ap₂ (λ j q. note_of j q r) (number ∙ none_before) place)
    ∙ sym (kept_more 0 h M.rows r)
    ∙ ap (λ u. kept 0 (length u) (M.rows ++ r ∷ [])) (sym (head_frames_lem M r))
