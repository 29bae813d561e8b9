-- Reading line by line: what a line makes of the stage, and what a line that was read tells.
use mathlib.Core.Path.{◌≡◌, refl, ap, ◌∙◌}
use mathlib.Core.Bool.{◌||◌, or-true}
use mathlib.Core.List.{List, []}
use mathlib.Core.Option.{Option, none, some}
use Prim.Native.Nat.{ℕ, suc, ◌+◌, ◌<◌, ◌≤◌}
use native.Mathlib.Omega.{arith}
use borrow.Author.Tests.{lt-ltb, le-ltb, eq-eqb, ne_eqb}
use lib.Dec.{eqb, ltb}
use lib.ListN.{length}
use Rattle.words.specs.Reply.{Reply, given, refused, refuse_if}
use Rattle.machine.specs.Machine.{Table}
use Rattle.text.specs.Limits.{text_most}
use Rattle.text.specs.Lines.{bytes_of, Lines, line, lines_of}
use Rattle.text.specs.Frames.{Stage, symbols, Step, next, wrong, step}
use Rattle.text.specs.Reading.{step_line, read_lines, read_table}

-- What is answered after a line.
abbrev after : Step → ℕ → List ℕ → Lines → Reply Table
after o p l ls = elim o [ next s' ↦ read_lines s' (p + suc (length l)) ls | wrong n ↦ refused n p ]

module _ (s : Stage) (p : ℕ) (l : List ℕ) (ls : Lines) where
  -- What a line that is no bytes makes of the stage.
  pub read_none : bytes_of l ≡ none → read_lines s p (line l ls) ≡ refused 2 p
  unfolding read_lines
  read_none e = ap (λ o. after (step_line s o) p l ls) e

  module _ (frame : List ℕ) (e : bytes_of l ≡ some frame) where
    -- What a line whose frame takes the stage on makes of it.
    pub read_next : (s' : Stage) → step s frame ≡ next s' → read_lines s p (line l ls) ≡ read_lines s' (p + suc (length l)) ls
    unfolding read_lines
    read_next s' f = ap (λ o. after (step_line s o) p l ls) e ∙ ap (λ o. after o p l ls) f

    -- What a line whose frame is wrong makes of it.
    pub read_wrong : (n : ℕ) → step s frame ≡ wrong n → read_lines s p (line l ls) ≡ refused n p
    unfolding read_lines
    read_wrong n f = ap (λ o. after (step_line s o) p l ls) e ∙ ap (λ o. after o p l ls) f

  -- Each line is one of these three.
  pub line_cases : {P : Type 0} → (bytes_of l ≡ none → P)
      → ((frame : List ℕ) (s' : Stage) → bytes_of l ≡ some frame → step s frame ≡ next s' → P)
      → ((frame : List ℕ) (n : ℕ) → bytes_of l ≡ some frame → step s frame ≡ wrong n → P) → P
  line_cases {P} f g h = bytes (bytes_of l) refl
    where
      stage : (frame : List ℕ) → bytes_of l ≡ some frame → (o : Step) → step s frame ≡ o → P
      stage frame i (next s') j = g frame s' i j
      stage frame i (wrong n) j = h frame n i j

      bytes : (o : Option (List ℕ)) → bytes_of l ≡ o → P
      bytes none i = f i
      bytes (some frame) i = stage frame i (step s frame) refl

-- A no is no table.
pub refused_given : {P : Type 0} (n p : ℕ) (M : Table) → refused n p ≡ given M → P
refused_given n p M e = absurd (let z : ◌≡◌ {A = ℕ} 0 1 = cc in omega arith)

-- A line that was read has a frame that takes the stage on.
pub line_read : {P : Type 0} (s : Stage) (p : ℕ) (l : List ℕ) (ls : Lines) (M : Table) → read_lines s p (line l ls) ≡ given M
    → ((frame : List ℕ) (s' : Stage) → bytes_of l ≡ some frame → step s frame ≡ next s'
    → read_lines s' (p + suc (length l)) ls ≡ given M → P)
    → P
line_read s p l ls M e f =
    line_cases s p l ls
    (λ i. refused_given 2 p M (rw (read_none s p l ls i) at e))
    (λ frame s' i j. f frame s' i j (rw (read_next s p l ls frame i s' j) at e))
    (λ frame n i j. refused_given n p M (rw (read_wrong s p l ls frame i n j) at e))

-- ---- number 1

-- An empty text is refused.
pub read_empty : (t : List ℕ) → length t ≡ 0 → read_table t ≡ refused 1 0
unfolding read_table
read_empty t h =
    ap (λ b. refuse_if (b || ltb text_most (length t)) 1 0 (read_lines (symbols []) 0 (lines_of t))) (eq-eqb (length t) 0 h)

-- A text that is too long is refused.
pub read_long : (t : List ℕ) → text_most < length t → read_table t ≡ refused 1 0
unfolding read_table
read_long t h = rw (lt-ltb text_most (length t) h, or-true (eqb (length t) 0))

-- Of any other text the lines decide.
pub read_fit : (t : List ℕ) → 1 ≤ length t → length t ≤ text_most → read_table t ≡ read_lines (symbols []) 0 (lines_of t)
unfolding read_table
read_fit t h k = rw (ne_eqb (length t) 0 (λ e. omega arith), le-ltb text_most (length t) k)

-- By the specification's number: 32,768 bytes are read, and 32,769 are not.
text_most_lem : (t : List ℕ) → length t ≡ 32768 → read_table t ≡ read_lines (symbols []) 0 (lines_of t)
text_most_lem t h = read_fit t (omega arith) (omega arith)

text_over : (t : List ℕ) → length t ≡ 32769 → read_table t ≡ refused 1 0
text_over t h = read_long t (omega arith)
