-- What is read as a table is the table's text, and the table is within the limits.
use mathlib.Core.Path.{◌≡◌, refl}
use mathlib.Core.Bool.{◌||◌}
use mathlib.Core.List.{List, [], ◌∷◌, ◌++◌, append_assoc, append-nil}
use Prim.Native.Nat.{ℕ, suc, ◌+◌, ◌≤◌}
use native.Mathlib.Omega.{arith}
use borrow.Author.Tests.{ltb-false}
use lib.Dec.{eqb, ltb}
use lib.ListN.{length}
use Rattle.words.specs.Reply.{given}
use Rattle.words.proofs.Tests.{both_fail}
use Rattle.words.proofs.Replies.{refuse_given}
use Rattle.machine.specs.Machine.{Table}
use Rattle.text.specs.Limits.{text_most}
use Rattle.text.specs.Lines.{Lines, behind, line, lines_of, hex_of, line_of}
use Rattle.text.specs.Frames.{Stage, symbols, rules, ended}
use Rattle.text.specs.Reading.{finish, read_lines, read_table}
use Rattle.text.specs.Writing.{symbol_lines, write_table, Limited}
use Rattle.text.proofs.Digits.{bytes_hex, bytes_small}
use Rattle.text.proofs.Lines.{line_inv, behind_inv}
use Rattle.text.proofs.Frames.{step_takes}
use Rattle.text.proofs.Reading.{refused_given, line_read}
use Rattle.text.proofs.Stages.{Bounded, written, StageLimits, takes_written, takes_limits}

-- Only behind the end frame is a table.
finish_inv : (s : Stage) (p : ℕ) (M : Table) → finish s p ≡ given M → s ≡ ended M
finish_inv (symbols ks) p M e = refused_given 3 p M e
finish_inv (rules N) p M e = refused_given 3 p M e
finish_inv (ended N) p M e = let x : N ≡ M = cc in rw x

-- A line behind what is written.
join_line : (w w' t l r frame x : List ℕ) → t ≡ l ++ 0x0a ∷ r → l ≡ hex_of frame → w' ≡ w ++ line_of frame → w' ++ r ≡ x
    → w ++ t ≡ x
unfolding line_of
join_line w w' t l r frame x e f g h = rw (e, f) (simp append_assoc at (rw g at h))

-- What is read from a stage on completes the table's text.
lines_back : (ls : Lines) (t : List ℕ) (s : Stage) (p : ℕ) (M : Table) → lines_of t ≡ ls → StageLimits s → read_lines s p ls ≡ given M
    → (written s ++ t ≡ write_table M) × Bounded M
unfolding read_lines written StageLimits
lines_back (behind []) t s p M e w h =
    let x = finish_inv s p M h in
    let y = behind_inv t [] e in
    (rw (x, y.0) (append-nil (write_table M)), rw x at w)
lines_back (behind (c ∷ cs)) t s p M e w h = refused_given 2 p M h
lines_back (line l ls) t s p M e w h =
    line_read s p l ls M h λ frame s' i j k.
    let f = line_inv t l ls e in
    let takes = step_takes s frame s' (bytes_small l frame i) j in
    let longer = takes_written s frame s' takes in
    let later = lines_back ls f.rest s' (p + suc (length l)) M f.more (takes_limits s frame s' w takes) k in
    (join_line (written s) (written s') t l f.rest frame (write_table M) f.is (bytes_hex l frame i) longer later.0, later.1)

-- A text that is read as a table is that table's text.
pub write_read : (t : List ℕ) (M : Table) → read_table t ≡ given M → t ≡ write_table M
unfolding read_table written StageLimits symbol_lines
write_read t M e =
    let x = refuse_given (eqb (length t) 0 || ltb text_most (length t)) 1 0 _ M e in
    (lines_back (lines_of t) t (symbols []) 0 M refl (omega arith, tt) x.1).0

-- A table that is read is within the limits.
pub read_limited : (t : List ℕ) (M : Table) → read_table t ≡ given M → Limited M
unfolding read_table StageLimits
read_limited t M e =
    let x = refuse_given (eqb (length t) 0 || ltb text_most (length t)) 1 0 _ M e in
    let y = both_fail (eqb (length t) 0) (ltb text_most (length t)) x.0 in
    let l : length t ≤ text_most = ltb-false text_most (length t) y.1 in
    (lines_back (lines_of t) t (symbols []) 0 M refl (omega arith, tt) x.1).1 (rw (write_read t M e) at l)
