-- Refusals of a table text: their numbers are 1 to 5, and their places lie in the text or at its end.
use mathlib.Core.Path.{◌≡◌, refl, ap, ◌∙◌}
use mathlib.Core.Bool.{Bool, true, false, ◌||◌}
use mathlib.Core.List.{List, [], ◌∷◌}
use Prim.Native.Nat.{ℕ, zero, suc, ◌+◌, ◌≤◌}
use native.Mathlib.Omega.{arith}
use lib.Dec.{eqb, leb, ltb}
use lib.ListN.{length, get_or, take, drop, length-append}
use Rattle.words.specs.Reply.{Reply, refused, refuse_if}
use Rattle.words.proofs.Replies.{refused_injective}
use Rattle.machine.specs.Machine.{Table}
use Rattle.text.specs.Limits.{text_most, symbols_most, arity_most, states_most, letters_most, rows_most}
use Rattle.text.specs.Lines.{Lines, behind, line, lines_of}
use Rattle.text.specs.Fields.{Parsed, got, fault, Field, and_then, check, byte, within, below, letters, text, children}
use Rattle.text.specs.Frames.{Stage, symbols, rules, ended, Step, next, wrong, whole, rises, by_kind, step}
use Rattle.text.specs.Frames.{symbol_frame, start_frame, rule_frame, end_frame}
use Rattle.text.specs.Reading.{finish, read_lines, read_table}
use Rattle.text.proofs.Lines.{line_inv}
use Rattle.text.proofs.Reading.{line_cases, read_none, read_next, read_wrong}

-- ---- numbers of fields and frames

-- A reader's number, if it has one, is 3, 4 or 5.
abbrev FieldNumbered : {A : Type 0} → Parsed A → Type 0
FieldNumbered (got a bs) = Unit {0}
FieldNumbered (fault n) = (3 ≤ n) × (n ≤ 5)

-- Two readers with such numbers have such a number.
then_numbered : {A B : Type 0} (p : Parsed A) (k : A → Field B) → FieldNumbered p → ((a : A) (s : List ℕ) → FieldNumbered (k a s))
    → FieldNumbered (and_then p k)
then_numbered (got a s) k h f = f a s
then_numbered (fault n) k h f = h

-- So have a test with such a number and what is read behind it.
check_numbered : {B : Type 0} (t : Bool) (n : ℕ) (k : Unit {0} → Field B) (bs : List ℕ) → (3 ≤ n) × (n ≤ 5) → FieldNumbered (k tt bs)
    → FieldNumbered (and_then (check t n bs) k)
check_numbered true n k bs h i = i
check_numbered false n k bs h i = h

-- Each field has such a number.
byte_numbered : (bs : List ℕ) → FieldNumbered (byte bs)
byte_numbered [] = omega arith
byte_numbered (b ∷ bs) = tt

within_numbered : (least most : ℕ) (bs : List ℕ) → FieldNumbered (within least most bs)
unfolding within
within_numbered least most bs =
    then_numbered (byte bs) _ (byte_numbered bs) λ b s.
    check_numbered (leb least b) 4 _ s (omega arith) (check_numbered (leb b most) 4 _ s (omega arith) tt)

below_numbered : (n : ℕ) (bs : List ℕ) → FieldNumbered (below n bs)
unfolding below
below_numbered n bs = then_numbered (byte bs) _ (byte_numbered bs) λ b s. check_numbered (ltb b n) 4 _ s (omega arith) tt

letters_numbered : (n : ℕ) (bs : List ℕ) → FieldNumbered (letters n bs)
unfolding letters
letters_numbered n bs = go (leb n (length bs))
  where
    go : (b : Bool) → FieldNumbered {A = List ℕ} (elim b as (λ x. Parsed (List ℕ)) [ true ↦ got (take n bs) (drop n bs) | false ↦ fault 5 ])
    go true = tt
    go false = omega arith

text_numbered : (bs : List ℕ) → FieldNumbered (text bs)
unfolding text
text_numbered bs = then_numbered (within 0 letters_most bs) _ (within_numbered 0 letters_most bs) letters_numbered

children_numbered : (n k : ℕ) (bs : List ℕ) → FieldNumbered (children n k bs)
unfolding children
children_numbered n zero bs = tt
children_numbered n (suc k) bs =
    then_numbered (below n bs) _ (below_numbered n bs) λ q s.
    then_numbered (text s) _ (text_numbered s) λ u r.
    then_numbered (children n k r) _ (children_numbered n k r) λ cs t. tt

-- Each frame has such a number.
symbol_numbered : (ks bs : List ℕ) → FieldNumbered (symbol_frame ks bs)
unfolding symbol_frame
symbol_numbered ks bs =
    check_numbered (ltb (length ks) symbols_most) 4 _ bs (omega arith)
    (then_numbered (within 0 arity_most bs) _ (within_numbered 0 arity_most bs) λ a r. tt)

start_numbered : (ks bs : List ℕ) → FieldNumbered (start_frame ks bs)
unfolding start_frame
start_numbered ks bs =
    then_numbered (within 1 states_most bs) _ (within_numbered 1 states_most bs) λ n s.
    then_numbered (text s) _ (text_numbered s) λ u r.
    then_numbered (below n r) _ (below_numbered n r) λ q v.
    then_numbered (text v) _ (text_numbered v) λ w x. tt

row_numbered : (M : Table) (bs : List ℕ) → FieldNumbered (rule_frame M bs)
unfolding rule_frame
row_numbered M bs =
    check_numbered (ltb (length M.rows) rows_most) 4 _ bs (omega arith)
    (then_numbered (below M.states bs) _ (below_numbered M.states bs) λ q r.
    then_numbered (below (length M.arities) r) _ (below_numbered (length M.arities) r) λ f s.
    check_numbered (rises M.rows q f) 3 _ s (omega arith)
    (then_numbered (text s) _ (text_numbered s) λ u v.
    then_numbered (children M.states (get_or M.arities f 0) v) _ (children_numbered M.states (get_or M.arities f 0) v) λ cs w. tt))

-- A step's number, if it has one, is 2 to 5.
abbrev StepNumbered : Step → Type 0
StepNumbered (next s) = Unit {0}
StepNumbered (wrong n) = (2 ≤ n) × (n ≤ 5)

-- A whole frame has such a number.
whole_numbered : (p : Parsed Stage) → FieldNumbered p → StepNumbered (whole p)
whole_numbered (got s []) h = tt
whole_numbered (got s (b ∷ bs)) h = omega arith
whole_numbered (fault n) h = omega arith

kind_numbered : (kind k : ℕ) (a other : Step) → StepNumbered a → StepNumbered other → StepNumbered (by_kind kind k a other)
kind_numbered kind k a other h i = go (eqb kind k)
  where
    go : (b : Bool) → StepNumbered (elim b as (λ x. Step) [ true ↦ a | false ↦ other ])
    go true = h
    go false = i

step_numbered : (s : Stage) (frame : List ℕ) → StepNumbered (step s frame)
unfolding step
step_numbered (symbols []) [] = omega arith
step_numbered (symbols (k ∷ ks)) [] = omega arith
step_numbered (rules M) [] = omega arith
step_numbered (ended M) [] = omega arith
step_numbered (symbols []) (kind ∷ bs) = kind_numbered kind 1 _ _ (whole_numbered (symbol_frame [] bs) (symbol_numbered [] bs)) (omega arith)
step_numbered (symbols (k ∷ ks)) (kind ∷ bs) =
    kind_numbered kind 1 _ _ (whole_numbered (symbol_frame (k ∷ ks) bs) (symbol_numbered (k ∷ ks) bs))
    (kind_numbered kind 2 _ _ (whole_numbered (start_frame (k ∷ ks) bs) (start_numbered (k ∷ ks) bs)) (omega arith))
step_numbered (rules M) (kind ∷ bs) =
    kind_numbered kind 3 _ _ (whole_numbered (rule_frame M bs) (row_numbered M bs))
    (kind_numbered kind 4 _ _ (whole_numbered (end_frame M bs) tt) (omega arith))
step_numbered (ended M) (kind ∷ bs) = omega arith

-- ---- places

-- Number n is 2 to 5, at a place from p to q.
record ToldBetween (p q n place : ℕ) : Type 0 where
  least : 2 ≤ n
  most : n ≤ 5
  from : p ≤ place
  to : place ≤ q

-- What is told where p stands.
told_here : (n p m place q : ℕ) → (2 ≤ n) × (n ≤ 5) → p ≤ q → ◌≡◌ {A = Reply Table} (refused n p) (refused m place) → ToldBetween p q m place
told_here n p m place q h l e =
    let x = refused_injective n p m place e in
    record { least = omega arith; most = omega arith; from = omega arith; to = omega arith }

-- What is told at the end.
told_end : (s : Stage) (p n place q : ℕ) → p ≤ q → finish s p ≡ refused n place → ToldBetween p q n place
told_end (symbols ks) p n place q l e = told_here 3 p n place q (omega arith) l e
told_end (rules M) p n place q l e = told_here 3 p n place q (omega arith) l e
told_end (ended M) p n place q l e = absurd (let z : ◌≡◌ {A = ℕ} 0 1 = cc in omega arith)

-- What is told of a frame.
step_told : (s : Stage) (frame : List ℕ) (n : ℕ) → step s frame ≡ wrong n → (2 ≤ n) × (n ≤ 5)
step_told s frame n e = rw e at (step_numbered s frame)

-- What is told from a line on.
lines_told : (ls : Lines) (t : List ℕ) (s : Stage) (p n place : ℕ) → lines_of t ≡ ls → read_lines s p ls ≡ refused n place
    → ToldBetween p (p + length t) n place
unfolding read_lines
lines_told (behind []) t s p n place e h = told_end s p n place (p + length t) (omega arith) h
lines_told (behind (c ∷ cs)) t s p n place e h = told_here 2 p n place (p + length t) (omega arith) (omega arith) h
lines_told (line l ls) t s p n place e h =
    line_cases s p l ls
    (λ i. told_here 2 p n place (p + length t) (omega arith) (omega arith) (rw (read_none s p l ls i) at h))
    (λ frame s' i j.
    let f = line_inv t l ls e in
    let k = lines_told ls f.rest s' (p + suc (length l)) n place f.more (rw (read_next s p l ls frame i s' j) at h) in
    let x = ap length f.is ∙ length-append l (0x0a ∷ f.rest) in
    record { least = k.least; most = k.most; from = omega (arith, k.from); to = omega (arith, k.to, x) })
    (λ frame m i j. told_here m p n place (p + length t) (step_told s frame m j) (omega arith) (rw (read_wrong s p l ls frame i m j) at h))

-- A refusal of a table text has a number from 1 to 5, and a place in the text or at its end.
pub read_refused : (t : List ℕ) (n p : ℕ) → read_table t ≡ refused n p → (1 ≤ n) × (n ≤ 5) × (p ≤ length t)
unfolding read_table
read_refused t n p e = go (eqb (length t) 0 || ltb text_most (length t)) e
  where
    go : (b : Bool) → refuse_if b 1 0 (read_lines (symbols []) 0 (lines_of t)) ≡ refused n p → (1 ≤ n) × (n ≤ 5) × (p ≤ length t)
    go true h =
        let x = refused_injective 1 0 n p h in
        (omega arith, omega arith, omega arith)
    go false h =
        let k = lines_told (lines_of t) t (symbols []) 0 n p refl h in
        (omega (arith, k.least), k.most, omega (arith, k.to))
