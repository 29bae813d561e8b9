-- What stands before the first rule: the symbols' arities, the number of states, the initial rule.
use mathlib.Core.Path.{◌≡◌, refl, sym, ap, ◌∙◌}
use mathlib.Core.List.{List, [], ◌∷◌, ◌++◌, append_assoc}
use Prim.Native.Nat.{ℕ, zero, suc, ◌+◌, ◌*◌, ◌<◌}
use native.Mathlib.Nat.{not-suc-le-zero, le_of_suc-le-suc}
use native.Mathlib.Omega.{arith}
use lib.ListN.{length, get_or, drop, length-append}
use lib.Seq.{drop-append_seam}
use Rattle.machine.specs.Machine.{Table}
use Rattle.text.specs.Writing.{text_of, initial_frame}
use Rattle.layout.specs.Layout.{symbol_frames, row_frames, head_frames, frames_of, before_at, after_at, Opened}
use Rattle.layout.specs.Leaves.{word_at}
use Rattle.layout.proofs.Fit.{length_symbols}
use Rattle.layout.proofs.Stretches.{byte_behind, further, word_here}

-- A symbol's arity is the second byte of its frame.
pub symbol_arity : (xs ys : List ℕ) (f : ℕ) → f < length xs → get_or (symbol_frames xs ++ ys) (2 * f + 1) 0 ≡ get_or xs f 0
unfolding symbol_frames
symbol_arity [] ys f h = absurd (not-suc-le-zero h)
symbol_arity (x ∷ xs) ys zero h = refl
symbol_arity (x ∷ xs) ys (suc f) h =
    ap (λ (k : ℕ). get_or (1 ∷ x ∷ symbol_frames xs ++ ys) k 0) two_more ∙ symbol_arity xs ys f (le_of_suc-le-suc h)
  where
    two_more : 2 * suc f + 1 ≡ suc (suc (2 * f + 1))
    two_more = omega arith

-- The frames before the first rule have two bytes a symbol, the letters of the initial rule, and five bytes more.
pub length_head : (M : Table) → length (head_frames M) ≡ 2 * length M.arities + length M.before + length M.after + 5
unfolding head_frames initial_frame
length_head M = simp length-append (omega (arith, length_symbols M.arities))

module _ {F I : List ℕ} {M : Table} (o : Opened F I M) where
  -- What stands behind the initial rule's frame.
  abbrev tail : List ℕ
  tail = row_frames M.rows ++ 4 ∷ o.behind

  -- The bytes are the frames before the first rule, and then the rules' frames, the end, and what is left.
  head_first : F ≡ head_frames M ++ tail
  unfolding frames_of
  head_first =
      o.frames ∙ append_assoc (head_frames M ++ row_frames M.rows) (4 ∷ []) o.behind ∙ append_assoc (head_frames M) (row_frames M.rows) (4 ∷ o.behind)

  -- The symbols' frames come first.
  symbols_first : F ≡ symbol_frames M.arities ++ (initial_frame M ++ tail)
  unfolding head_frames
  symbols_first = head_first ∙ append_assoc (symbol_frames M.arities) (initial_frame M) tail

  -- A symbol's arity is read from its frame.
  pub arity : (f : ℕ) → f < length M.arities → get_or F (2 * f + 1) 0 ≡ get_or M.arities f 0
  arity f h = ap (λ (l : List ℕ). get_or l (2 * f + 1) 0) symbols_first ∙ symbol_arity M.arities (initial_frame M ++ tail) f h

  -- The initial rule's frame stands behind the symbols' frames.
  initial_there : drop (2 * length M.arities) F ≡ initial_frame M ++ tail
  initial_there =
      ap (λ (k : ℕ). drop k F) (sym (length_symbols M.arities)) ∙ ap (λ (l : List ℕ). drop (length (symbol_frames M.arities)) l) symbols_first
      ∙ drop-append_seam (symbol_frames M.arities) (initial_frame M ++ tail)

  -- The number of states stands behind its kind.
  states_there : drop (2 * length M.arities + 1) F ≡ M.states ∷ (text_of M.before ++ M.start ∷ text_of M.after) ++ tail
  unfolding initial_frame
  states_there = byte_behind F (2 * length M.arities) 2 (M.states ∷ (text_of M.before ++ M.start ∷ text_of M.after) ++ tail) initial_there

  -- The initial rule's first word, its state and its second word stand behind the number of states.
  before_there : drop (before_at M) F ≡ text_of M.before ++ (M.start ∷ text_of M.after ++ tail)
  before_there =
      ap (λ (k : ℕ). drop k F) one_more
      ∙ byte_behind F (2 * length M.arities + 1) M.states ((text_of M.before ++ M.start ∷ text_of M.after) ++ tail) states_there
      ∙ append_assoc (text_of M.before) (M.start ∷ text_of M.after) tail
    where
      one_more : 2 * length M.arities + 2 ≡ 2 * length M.arities + 1 + 1
      one_more = omega arith

  -- The initial rule's first word is read where the head says.
  pub before_word : word_at F (before_at M) ≡ M.before
  before_word = word_here F (before_at M) M.before (M.start ∷ text_of M.after ++ tail) before_there

  -- The initial state stands behind that word.
  start_there : drop (2 * length M.arities + 3 + length M.before) F ≡ M.start ∷ text_of M.after ++ tail
  start_there =
      ap (λ (k : ℕ). drop k F) word_more ∙ further F (before_at M) (text_of M.before) (M.start ∷ text_of M.after ++ tail) before_there
    where
      word_more : 2 * length M.arities + 3 + length M.before ≡ 2 * length M.arities + 2 + suc (length M.before)
      word_more = omega arith

  -- The initial rule's second word stands behind its state.
  after_there : drop (after_at M) F ≡ text_of M.after ++ tail
  after_there =
      ap (λ (k : ℕ). drop k F) one_more ∙ byte_behind F (2 * length M.arities + 3 + length M.before) M.start (text_of M.after ++ tail) start_there
    where
      one_more : 2 * length M.arities + 4 + length M.before ≡ 2 * length M.arities + 3 + length M.before + 1
      one_more = omega arith

  -- The initial rule's second word is read where the head says.
  pub after_word : word_at F (after_at M) ≡ M.after
  after_word = word_here F (after_at M) M.after tail after_there

  -- The rules' frames, the end and what is left stand where the head says.
  pub rows_there : drop (length (head_frames M)) F ≡ row_frames M.rows ++ 4 ∷ o.behind
  rows_there = ap (λ (l : List ℕ). drop (length (head_frames M)) l) head_first ∙ drop-append_seam (head_frames M) tail
