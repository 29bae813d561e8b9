-- The marks of a stream that grows at its end, and what is told of a long one. Assumes nothing.
use mathlib.Core.Path.{◌≡◌, refl, sym, ap, subst, ◌∙◌}
use mathlib.Core.Bool.{false}
use mathlib.Core.List.{List, [], ◌∷◌, ◌++◌, map}
use Prim.Native.Nat.{ℕ, suc, ◌+◌, ◌<◌, ◌≤◌}
use native.Mathlib.Omega.{arith}
use lib.Dec.{ltb}
use lib.ListN.{length, length-append, length-map}
use Rattle.words.specs.declared.No.{No}
use Rattle.words.specs.Reply.{Reply, given, refusal, refused, ◌then◌}
use Rattle.words.proofs.Replies.{given_injective, refusal_injective, then_given}
use Rattle.machine.specs.Machine.{Tree}
use Rattle.trees.specs.Preorder.{preorder}
use Rattle.trees.specs.Shape.{tree_most, read_tree}
use Rattle.records.specs.Records.{Element, close, image, spell}
use Rattle.records.specs.Stream.{read_record}
use Rattle.records.specs.Symbols.{last_symbol}
use Rattle.records.specs.Counter.{StreamMarks, marks, step#, ending#, marks_from, marks_of, check_stream}
use Rattle.records.specs.Calls.{spelled}
use Rattle.records.proofs.Counter.{check_given, check_refused, stream_tree}
use Rattle.records.proofs.Ranked.{tree_long}
use Rattle.stream_check.specs.StreamTold.{marks_told}
use Rattle.stream_check.proofs.Steps.{step_most, ending_whole, ending_open}
use Rattle.long_line.specs.Held.{MarksTold, long_reply}

-- The marks of a stream are those behind its front and then the rest.
marks_append : (c a : ℕ) (m : StreamMarks) (p : ℕ) (xs ys : List ℕ)
    → marks_from c a m p (xs ++ ys) ≡ (marks_from c a m p xs then λ m'. marks_from c a m' (p + length xs) ys)
unfolding marks_from
marks_append c a m p [] ys = let e : p ≡ p + 0 = omega arith in ap (λ (q : ℕ). marks_from c a m q ys) e
marks_append c a m p (x ∷ xs) ys = go (step# c a m p x) (λ m'. marks_append c a m' (suc p) xs ys)
  where
    go : (o : Reply StreamMarks)
        → ((m' : StreamMarks) → marks_from c a m' (suc p) (xs ++ ys) ≡ (marks_from c a m' (suc p) xs then λ n. marks_from c a n (suc p + length xs) ys))
        → (o then λ m'. marks_from c a m' (suc p) (xs ++ ys))
        ≡ (o then (λ m'. marks_from c a m' (suc p) xs) then λ n. marks_from c a n (p + suc (length xs)) ys)
    go (given m') h =
        let e : suc p + length xs ≡ p + suc (length xs) = omega arith in
        h m' ∙ ap (λ (q : ℕ). marks_from c a m' (suc p) xs then λ n. marks_from c a n q ys) e
    go (refusal y) h = refl

-- The same from the beginning on.
marks_front : (c a : ℕ) (xs ys : List ℕ) → marks_of c a (xs ++ ys) ≡ (marks_of c a xs then λ m. marks_from c a m (length xs) ys)
unfolding marks_of
marks_front c a xs ys =
    let e : 0 + length xs ≡ length xs = omega arith in
    marks_append c a (marks 0 false) 0 xs ys ∙ ap (λ (q : ℕ). marks_from c a (marks 0 false) 0 xs then λ m. marks_from c a m q ys) e

-- Each byte opens one element at most.
marks_most : (bs : List ℕ) (c a : ℕ) (m : StreamMarks) (p : ℕ) (m' : StreamMarks) → marks_from c a m p bs ≡ given m'
    → m'.open_now ≤ m.open_now + length bs
unfolding marks_from
marks_most [] c a m p m' e = omega (arith, ap (λ (z : StreamMarks). z.open_now) (given_injective m m' e))
marks_most (b ∷ bs) c a m p m' e =
    let i = then_given (step# c a m p b) (λ z. marks_from c a z (suc p) bs) m' e in
    omega (arith, step_most c a m p b i.0 i.1, marks_most bs c a i.0 (suc p) m' i.2)

module _ (a : ℕ) (gone bytes : List ℕ) {told : Reply ℕ} (h : MarksTold a gone told) where
  -- A refused front: so is the whole, with the same.
  pub front_refused : {x : No} → told ≡ refusal x → MarksTold a (gone ++ bytes) (refusal x)
  front_refused {x} e =
      ap (λ (o : Reply StreamMarks). o then λ m. marks_from close a m (length gone) bytes) (sym (ap (marks_told (ltb 0 (length gone))) e) ∙ h)
      ∙ sym (marks_front close a gone bytes)

  -- As many elements are open as it has bytes, at most.
  pub front_most : {n : ℕ} → told ≡ given n → n ≤ length gone
  unfolding marks_of
  front_most {n} e =
      let i = sym h ∙ ap (marks_told (ltb 0 (length gone))) e in
      omega (arith, marks_most gone close a (marks 0 false) 0 (marks n (ltb 0 (length gone))) i)

  -- What is told of the bytes behind it is told of the whole.
  pub front_more : {n : ℕ} (r : Reply ℕ) (q : ℕ) → told ≡ given n → q ≡ length gone
      → marks_told (ltb 0 (q + length bytes)) r ≡ marks_from close a (marks n (ltb 0 q)) q bytes → MarksTold a (gone ++ bytes) r
  front_more {n} r q e i f =
      ap (λ (k : ℕ). marks_told (ltb 0 k) r) (length-append gone bytes)
      ∙ subst (λ (k : ℕ). marks_told (ltb 0 (k + length bytes)) r ≡ marks_from close a (marks n (ltb 0 k)) k bytes) i f
      ∙ ap (λ (o : Reply StreamMarks). o then λ m. marks_from close a m (length gone) bytes) (sym (ap (marks_told (ltb 0 (length gone))) e) ∙ h)
      ∙ sym (marks_front close a gone bytes)

module _ (a : ℕ) (s : List ℕ) where
  -- A refused stream.
  pub long_refused : {x : No} → MarksTold a s (refusal x) → long_reply a s ≡ refusal x
  unfolding check_stream
  long_refused h = ap (λ (o : Reply StreamMarks). o then (λ m. ending# m.open_now m.begun (length s)) then λ u. refused 6 0) (sym h)

  -- A stream that leaves so many elements open.
  long_ended : {n : ℕ} → MarksTold a s (given n) → long_reply a s ≡ (ending# n (ltb 0 (length s)) (length s) then λ u. refused 6 0)
  unfolding check_stream
  long_ended h = ap (λ (o : Reply StreamMarks). o then (λ m. ending# m.open_now m.begun (length s)) then λ u. refused 6 0) (sym h)

  -- None: it is a record's, and so too long.
  pub long_whole : {n : ℕ} → MarksTold a s (given n) → n ≡ 0 → 0 < length s → long_reply a s ≡ refused 6 0
  long_whole {n} h z l = long_ended h ∙ ap (λ (o : Reply (Unit {0})). o then λ u. refused 6 0) (ending_whole n (length s) z l)

  -- Some: 22 at its length.
  pub long_open : {n : ℕ} → MarksTold a s (given n) → 0 < n → long_reply a s ≡ refused 22 (length s)
  long_open {n} h l = long_ended h ∙ ap (λ (o : Reply (Unit {0})). o then λ u. refused 6 0) (ending_open n (ltb 0 (length s)) (length s) l)

-- The refusal of a stream, or 6.
abbrev or_six : Reply (Unit {0}) → Reply (Unit {0})
or_six u = u then λ z. refused 6 0

-- What is told of a long stream is the refusal of reading it and its image as a tree.
pub long_read : (ar s : List ℕ) (a : ℕ) (x : No) → last_symbol ar ≡ given a → a ≤ 255 → tree_most < length s → long_reply a s ≡ refusal x
    → (spelled ar s then read_tree ar) ≡ refusal x
unfolding spelled
long_read ar s a x l m n e = rw l (go (check_stream close a s) refl e)
  where
    imaged : Reply Element → Reply Tree
    imaged o = o then (λ r. given (preorder (image a r))) then read_tree ar

    go : (u : Reply (Unit {0})) → check_stream close a s ≡ u → or_six u ≡ refusal x → imaged (read_record a s) ≡ refusal x
    go (given z) i f =
        let r = (check_given a s).0 i in
        let t = stream_tree a s r.0 m r.1 in
        let k : tree_most < length (preorder (image a r.0)) =
        omega (arith, n, ap length t, length-append (map (spell a) s) (a ∷ []), length-map s (spell a)) in
        ap imaged r.1 ∙ tree_long ar (preorder (image a r.0)) k ∙ ap refusal (refusal_injective _ _ f)
    go (refusal y) i f = ap imaged ((check_refused a s y.number y.place).0 i) ∙ ap refusal (refusal_injective _ _ f)
