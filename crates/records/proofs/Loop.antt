-- What a loop over a stream or over tree bytes does at each byte.
use mathlib.Core.Path.{◌≡◌, refl, sym, ap, ap₂, ◌∙◌}
use mathlib.Core.Bool.{false}
use mathlib.Core.List.{List, [], ◌∷◌, ◌++◌, map}
use Prim.Native.Nat.{ℕ, zero, suc, ◌<◌, ◌≤◌}
use native.Mathlib.Omega.{arith}
use native.Mathlib.Decide.{dec_lt}
use borrow.Author.Tests.{eq-eqb, ne_eqb}
use lib.ListN.{length, get_or, take, drop, length-append, length-map}
use lib.Seq.{drop-cons, drop-length, take_at}
use Rattle.words.specs.Reply.{Reply, given, refusal, ◌then◌}
use Rattle.machine.specs.Machine.{Tree}
use Rattle.trees.specs.Shape.{read_tree}
use Rattle.trees.proofs.Whole as Whole
use Rattle.records.specs.Records.{Element, close, bytes_of, bytes_ofs, replaced, unspell}
use Rattle.records.specs.Stream.{read_record}
use Rattle.records.specs.Symbols.{RecordSymbols}
use Rattle.records.specs.Back.{elements_of, back}
use Rattle.records.specs.Counter.{StreamMarks, marks, step#, ending#, marks_from, marks_of, check_stream}
use Rattle.records.proofs.Sound.{read_sound}
use Rattle.records.proofs.Counter.{plain, check_read}
use Rattle.records.proofs.Writing.{retold, tree_unspelled, tree_read_lem}

-- The marks at byte i, and at the end.
pub marks_at : (c a : ℕ) (m : StreamMarks) (s : List ℕ) (i : ℕ) → i < length s
    → marks_from c a m i (drop i s) ≡ step# c a m i (get_or s i 0) then λ m'. marks_from c a m' (suc i) (drop (suc i) s)
unfolding marks_from
marks_at c a m s i h = ap (marks_from c a m i) (drop-cons s i 0 h)

pub marks_end : (c a : ℕ) (m : StreamMarks) (s : List ℕ) → marks_from c a m (length s) (drop (length s) s) ≡ given m
unfolding marks_from
marks_end c a m s = ap (marks_from c a m (length s)) (drop-length s)

-- All bytes are at most a.
abbrev pub Below : ℕ → List ℕ → Type 0
Below a bs = (i : ℕ) → i < length bs → get_or bs i 0 ≤ a

-- In tree bytes the last symbol closes: the same is told as of the bytes with ff in its place, where all are symbols.
step_unspelled : (a : ℕ) (m : StreamMarks) (p b : ℕ) → a ≤ 255 → b ≤ a → step# a a m p b ≡ step# close a m p (unspell a b)
step_unspelled a m p b k h = go (dec_lt b a)
  where
    go : Dec (b < a) → step# a a m p b ≡ step# close a m p (unspell a b)
    go (yes l) = rw (replaced, ne_eqb b a (λ z. omega arith), step#, ne_eqb b 255 (λ z. omega arith), ne_eqb b a (λ z. omega arith))
    go (no l) = let e : b ≡ a = omega (arith, l, h) in rw (replaced, step#, eq-eqb b a e)

-- Two ways to go on that tell the same.
then_same : (o : Reply StreamMarks) (f g : StreamMarks → Reply StreamMarks) → ((m : StreamMarks) → f m ≡ g m) → (o then f) ≡ (o then g)
then_same (given m) f g h = h m
then_same (refusal x) f g h = refl

pub marks_unspelled : (bs : List ℕ) (a : ℕ) (m : StreamMarks) (p : ℕ) → a ≤ 255 → Below a bs
    → marks_from a a m p bs ≡ marks_from close a m p (map (unspell a) bs)
unfolding marks_from
marks_unspelled [] a m p k h = refl
marks_unspelled (b ∷ bs) a m p k h =
    ap (λ (o : Reply StreamMarks). o then λ m'. marks_from a a m' (suc p) bs) (step_unspelled a m p b k (h 0 (omega arith)))
    ∙ then_same (step# close a m p (unspell a b)) _ _ (λ m'. marks_unspelled bs a m' (suc p) k (λ i l. h (suc i) (omega arith)))

pub check_unspelled : (a : ℕ) (bs : List ℕ) → a ≤ 255 → Below a bs → check_stream a a bs ≡ check_stream close a (map (unspell a) bs)
unfolding check_stream marks_of
check_unspelled a bs k h =
    ap₂ (λ (o : Reply StreamMarks) (q : ℕ). o then λ m. ending# m.open_now m.begun q) (marks_unspelled bs a (marks 0 false) 0 k h)
    (sym (length-map bs (unspell a)))

-- Translating a part is taking a part of the translation.
map_take : (f : ℕ → ℕ) (k : ℕ) (l : List ℕ) → map f (take k l) ≡ take k (map f l)
map_take f zero l = refl
map_take f (suc k) [] = refl
map_take f (suc k) (x ∷ l) = ap (λ (z : List ℕ). f x ∷ z) (map_take f k l)

module _ (ar : List ℕ) (a : ℕ) (S : RecordSymbols ar a) where
  -- All but the last byte of tree bytes, translated one by one.
  pub bytes_front : (bs : List ℕ) (k : ℕ) (t : Tree) → suc k ≡ length bs → read_tree ar bs ≡ given t → map (unspell a) (take k bs) ≡ bytes_ofs (elements_of t)
  bytes_front bs k t n e =
      let w = Whole.read_sound ar bs t e in
      let u : map (unspell a) bs ≡ bytes_ofs (elements_of t) ++ close ∷ [] = ap (map (unspell a)) w.0 ∙ tree_unspelled ar a S t w.1 in
      let l : length bs ≡ length (bytes_ofs (elements_of t) ++ close ∷ []) = sym (length-map bs (unspell a)) ∙ ap length u in
      let j : length (bytes_ofs (elements_of t)) ≡ k = omega (arith, n, l, length-append (bytes_ofs (elements_of t)) (close ∷ [])) in
      map_take (unspell a) k bs ∙ ap (take k) u ∙ take_at (bytes_ofs (elements_of t)) (close ∷ []) k j

  -- Theorem. The counter over these tells what the tree's record is told to be: it accepts exactly a record's image, and otherwise
  -- tells 22 at 0 for 24 at 0, and 23 at p for 24 at p.
  pub bytes_counter : (bs : List ℕ) (k : ℕ) (t : Tree) → a ≤ 255 → suc k ≡ length bs → read_tree ar bs ≡ given t
      → check_stream close a (map (unspell a) (take k bs)) ≡ plain (retold (back a t))
  bytes_counter bs k t m n e =
      let w = Whole.read_sound ar bs t e in
      check_read a (map (unspell a) (take k bs)) ∙ ap (λ (z : List ℕ). plain (read_record a z)) (bytes_front bs k t n e) ∙ ap plain
      (tree_read_lem ar a S t m w.1)

  -- Theorem. Where the record is given, these bytes are its stream.
  pub bytes_written : (bs : List ℕ) (k : ℕ) (t : Tree) (r : Element) → a ≤ 255 → suc k ≡ length bs → read_tree ar bs ≡ given t → back a t ≡ given r
      → map (unspell a) (take k bs) ≡ bytes_of r
  bytes_written bs k t r m n e b =
      let w = Whole.read_sound ar bs t e in
      let i : read_record a (bytes_ofs (elements_of t)) ≡ given r = tree_read_lem ar a S t m w.1 ∙ ap retold b in
      bytes_front bs k t n e ∙ (read_sound a (bytes_ofs (elements_of t)) r i).0
