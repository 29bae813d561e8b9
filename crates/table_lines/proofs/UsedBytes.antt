-- The bytes that are decoded at a stage, and what a frame adds to them.
use mathlib.Core.Path.{◌≡◌, sym, ap, ◌∙◌}
use mathlib.Core.List.{List, ◌++◌, append_assoc, append-nil}
use Prim.Native.Nat.{ℕ, ◌+◌}
use lib.ListN.{length, length-append}
use Rattle.text.specs.Frames as text
use Rattle.text.specs.Frames.{symbols, rules, ended}
use Rattle.text.specs.Writing.{row_frame, initial_frame, AtMost}
use Rattle.text.proofs.Frames.{Takes, symbol, start, row, end, step_takes}
use Rattle.layout.specs.Layout.{symbol_frames, head_frames, row_frames, frames_of}
use Rattle.layout.proofs.Growing.{symbols_more, rows_more}
use Rattle.head_frames.specs.Staged.{Staged}
use Rattle.head_frames.specs.declared.Stage.{Stage}
use Rattle.head_frames.specs.declared.Note.{Note}

-- The frames up to a stage.
unfoldable decoded : text.Stage → List ℕ
decoded (symbols ks) = symbol_frames ks
decoded (rules M) = head_frames M ++ row_frames M.rows
decoded (ended M) = frames_of M

-- A frame adds its bytes.
takes_decoded : (s : text.Stage) (frame : List ℕ) (s' : text.Stage) → Takes s frame s' → decoded s' ≡ decoded s ++ frame
unfolding decoded head_frames row_frames frames_of initial_frame
takes_decoded s frame s' (symbol ks a e f g h k) = rw (e, f, g) (symbols_more ks a)
takes_decoded s frame s' (start M e f g h k) = rw (e, f, g, h) (append-nil (symbol_frames M.arities ++ initial_frame M))
takes_decoded s frame s' (row M r e f g h) =
    let front : List ℕ = symbol_frames M.arities ++ initial_frame M in
    rw (e, f, g) (ap (λ x. front ++ x) (rows_more M.rows r) ∙ sym (append_assoc front (row_frames M.rows) (row_frame r)))
takes_decoded s frame s' (end M e f g) = rw (e, f, g)

-- The reader uses as many bytes as are decoded.
staged_used : (F : List ℕ) (R : List Note) (st : Stage) (s : text.Stage) → Staged F R st s → st.used ≡ length (decoded s)
unfolding decoded
staged_used F R st (symbols ks) d = d.used
staged_used F R st (rules M) d = d.used
staged_used F R st (ended M) d = d.used

-- A frame that is read uses its bytes.
pub used_more : (F : List ℕ) (R : List Note) (F' : List ℕ) (R' : List Note) (st st' : Stage) (s s' : text.Stage) (frame : List ℕ) → AtMost 255 frame → text.step
    s frame ≡ text.next s'
    → Staged F R st s → Staged F' R' st' s' → st'.used ≡ st.used + length frame
used_more F R F' R' st st' s s' frame h e d d' =
    staged_used F' R' st' s' d'
    ∙ ap length (takes_decoded s frame s' (step_takes s frame s' h e))
    ∙ length-append (decoded s) frame
    ∙ ap (λ n. n + length frame) (sym (staged_used F R st s d))
