-- What is told of tree bytes by their shape: its refusal; where it is right, the refusal of all but the last byte as a stream is 24's place.
-- Assumes nothing.
use mathlib.Core.Path.{◌≡◌, refl, sym, ap, ap₂, subst, ◌∙◌}
use mathlib.Core.List.{List}
use Prim.Native.Nat.{ℕ, zero, suc, ◌-◌, ◌<◌, ◌≤◌}
use native.Mathlib.Omega.{arith}
use lib.ListN.{length}
use Rattle.words.specs.declared.No.{No}
use Rattle.words.specs.Reply.{Reply, given, refusal, no_at, refused, ◌then◌}
use Rattle.words.proofs.Replies.{given_refused, refusal_injective}
use Rattle.machine.specs.Machine.{Tree}
use Rattle.trees.specs.Preorder.{preorder}
use Rattle.trees.specs.Shape.{read_tree}
use Rattle.trees.proofs.Whole.{read_sound}
use Rattle.shape.specs.Shaped.{size}
use Rattle.records.specs.Records.{Element}
use Rattle.records.specs.Symbols.{RecordSymbols, last_symbol}
use Rattle.records.specs.Back.{back}
use Rattle.records.specs.Counter.{check_stream}
use Rattle.records.proofs.Back.{back_refused}
use Rattle.records.proofs.Counter.{plain}
use Rattle.records.proofs.Loop.{Below, check_unspelled, bytes_counter}
use Rattle.records.proofs.Symbols.{last_given}
use Rattle.records.proofs.Writing.{retold_at, retold}
use Rattle.tree_record_call.specs.ImageTold.{image_told, all_but_last}
use Rattle.tree_record_call.proofs.Low.{tree_low}

-- A shape that is refused: so are the bytes.
pub shape_refused : (ar : List ℕ) (a : ℕ) (bs : List ℕ) {h : Reply ℕ} {x : No} → h ≡ size (read_tree ar bs) → h ≡ refusal x
    → refusal x ≡ image_told ar a bs
unfolding image_told
shape_refused ar a bs {h} {x} k e = go (read_tree ar bs) (sym e ∙ k)
  where
    go : (o : Reply Tree) → refusal x ≡ size o → refusal x ≡ plain (o then back a)
    go (given t) i = absurd (given_refused (length (preorder t)) x.number x.place (sym i))
    go (refusal y) i = ap refusal (refusal_injective {A = ℕ} x y i)

-- A shape that is right: a tree is read.
shape_right : (ar bs : List ℕ) {h : Reply ℕ} {n : ℕ} → h ≡ size (read_tree ar bs) → h ≡ given n → (t : Tree) × (read_tree ar bs ≡ given t)
shape_right ar bs {h} {n} k e = go (read_tree ar bs) refl (sym e ∙ k)
  where
    go : (o : Reply Tree) → read_tree ar bs ≡ o → given n ≡ size o → (t : Tree) × (read_tree ar bs ≡ given t)
    go (given t) i j = (t, i)
    go (refusal y) i j = absurd (given_refused n y.number y.place j)

-- 24 at a place, retold, is no yes, and a no at that place.
retold_no : (p : ℕ) → given tt ≡ plain (retold_at p) → ⊥
retold_no zero e = given_refused tt 22 0 e
retold_no (suc p) e = given_refused tt 23 (suc p) e

retold_place : (p : ℕ) (x : No) → refusal x ≡ plain (retold_at p) → x.place ≡ p
retold_place zero x e = ap (λ (z : No). z.place) (refusal_injective {A = Unit {0}} x (no_at 22 0) e)
retold_place (suc p) x e = ap (λ (z : No). z.place) (refusal_injective {A = Unit {0}} x (no_at 23 (suc p)) e)

-- What the reading of a tree's bytes as a stream tells of its record: a yes, or a no at 24's place.
retold_yes : (o : Reply Element) → given tt ≡ plain (retold o) → given tt ≡ plain o
retold_yes (given r) e = refl
retold_yes (refusal x) e = absurd (retold_no x.place e)

retold_refused : (o : Reply Element) (x : No) → ((n p : ℕ) → o ≡ refused n p → n ≡ 24) → refusal x ≡ plain (retold o) → refused 24 x.place ≡ plain o
retold_refused (given r) x h e = absurd (given_refused tt x.number x.place (sym e))
retold_refused (refusal y) x h e =
    ap₂ (λ (n p : ℕ). refused {A = Unit {0}} n p) (sym (h y.number y.place refl)) (retold_place y.place x e)

-- All but the last byte of a tree as a stream.
stream_told_lem : (ar : List ℕ) (a : ℕ) (bs : List ℕ) (t : Tree) → RecordSymbols ar a → a ≤ 255 → 0 < length bs → read_tree ar bs ≡ given t
    → check_stream a a (all_but_last bs) ≡ plain (retold (back a t))
stream_told_lem ar a bs t s m l e =
    let w = read_sound ar bs t e in
    let low : Below a (all_but_last bs) = rw w.0 (tree_low ar a t (length (preorder t) - 1) s.many w.1) in
    check_unspelled a (all_but_last bs) m low ∙ bytes_counter ar a s bs (length bs - 1) t m (omega arith) e

module _ (ar : List ℕ) (a : ℕ) (bs : List ℕ) {h : Reply ℕ} {n : ℕ} (e : last_symbol ar ≡ given a) (m : a ≤ 255) (l : 0 < length bs)
    (k : h ≡ size (read_tree ar bs)) (i : h ≡ given n) where
  -- Where the shape is right, a yes of the stream is one for the tree, and a no is 24 there.
  pub stream_whole : given tt ≡ check_stream a a (all_but_last bs) → given tt ≡ image_told ar a bs
  unfolding image_told
  stream_whole g =
      let t = shape_right ar bs k i in
      rw t.1 (retold_yes (back a t.0) (g ∙ stream_told_lem ar a bs t.0 ((last_given ar a).0 e) m l t.1))

  pub stream_refused : {x : No} → refusal x ≡ check_stream a a (all_but_last bs) → refused 24 x.place ≡ image_told ar a bs
  unfolding image_told
  stream_refused {x} g =
      let t = shape_right ar bs k i in
      let s = (last_given ar a).0 e in
      let w = read_sound ar bs t.0 t.1 in
      rw t.1 (retold_refused (back a t.0) x (λ n p b. ((back_refused ar a s t.0 n p w.1).0 b).0) (g ∙ stream_told_lem ar a bs t.0 s m l t.1))
