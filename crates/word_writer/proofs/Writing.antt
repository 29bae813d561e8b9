-- Writing the word of a planned tree, for every table, tree and word at once: what holds before a word is put, and what the whole answers. Assumes nothing.
use mathlib.Core.Path.{◌≡◌, refl, sym, ap, subst, subst⁻¹, ◌∙◌}
use mathlib.Core.List.{List, [], ◌∷◌, ◌++◌, append_assoc, append-nil}
use Prim.Native.Nat.{ℕ, ◌+◌, ◌-◌, ◌/◌, ◌%◌, ◌≤◌, ◌<◌}
use native.Mathlib.Omega.{arith}
use borrow.Rule.Slice.PartMut.{put_mid, same_len_mid}
use lib.ListN.{length, get_or, take, drop, length-append, length-drop, length-take}
use lib.Seq.{take-append-add, take-append-le, length-take-le}
use Rattle.words.specs.Word.{Word}
use Rattle.machine.specs.Machine.{Tree, Child, Table}
use Rattle.trees.specs.Preorder.{preorder}
use Rattle.trees.specs.Shape.{tree_most}
use Rattle.layout.specs.Layout.{frames_size}
use Rattle.layout.specs.Leaves.{Spot, Put}
use Rattle.word_leaves.proofs.Spots.{spot_within}
use Rattle.walk.specs.Plan.{plan_unit}
use Rattle.word_writer.specs.WordWritten.{Due, WordWritten, Tidy, GoesOn, EndsBehind}
use Rattle.word_writer.specs.declared.Written.{Written}
use Rattle.word_writer.proofs.Planned.{ChildrenToWrite, NextToWrite, no_levels, no_place, named_rule, left_next, left_last, next_level, next_place}

-- The answer r and the room R' at the end are right for every planned tree with a word that n letters of room are enough for.
abbrev pub NodeWrites : List ℕ → List ℕ → ℕ → ℕ → ℕ → List ℕ → Written → Type 0
NodeWrites F P levels at n R' r = (M : Table) (q : ℕ) (t : Tree) (w : Word) → Due F P at levels n M q t w → WordWritten w at (length (preorder t)) R' r

-- There is no planned tree with a word that n letters of room are enough for.
abbrev pub Nothing : List ℕ → List ℕ → ℕ → ℕ → ℕ → Type 0
Nothing F P levels at n = (M : Table) (q : ℕ) (t : Tree) (w : Word) → Due F P at levels n M q t w → ⊥

-- Whoever stops at a place behind its own, within the plan, is tidy and has gone onward.
pub stopped : {R R' : List ℕ} {at end next : ℕ} → length R' ≡ length R → end ≤ length R → next ≤ tree_most → at < next
    → Tidy R R' (record { letters = end; place = next }) × EndsBehind at (record { letters = end; place = next })
stopped long letters place behind = (
  record { long = long; letters = letters; place = place },
  record { behind = λ h. behind; past = λ h. absurd (omega (arith, place, behind, h)) },
)

-- Before a word is put: acc stands at the front of the room, `end` letters of it; the word u at spot p is next, and what the children behind it write
-- makes w whole.
pub record PartWritten (F P R : List ℕ) (M : Table) (levels place : ℕ) (w : Word) (end next left p : ℕ) : Type 0 where
  pub acc : Word
  pub u : Word
  pub v : Word
  pub cs : List Child
  pub front : take end R ≡ acc
  pub size : length acc ≡ end
  pub spot : Spot F u cs p
  pub rest : ChildrenToWrite F P M levels place v next left cs
  pub whole : w ≡ acc ++ u ++ v

-- Before a word is put, for every planned tree with a word that n letters of room are enough for.
pub record Writing (F P : List ℕ) (levels at n : ℕ) (R : List ℕ) (end next left p : ℕ) : Type 0 where
  pub part : (M : Table) (q : ℕ) (t : Tree) (w : Word) → Due F P at levels n M q t w
      → PartWritten F P R M (levels - 1) (at + length (preorder t)) w end next left p

module _ (F P : List ℕ) (levels at n : ℕ) where
  -- No level is allowed.
  pub levels_nothing : levels ≡ 0 → Nothing F P levels at n
  levels_nothing z M q t w d = no_levels F P at levels n M q t w z d

  -- The plan has ended.
  pub place_nothing : tree_most ≤ at → Nothing F P levels at n
  place_nothing z M q t w d = no_place F P at levels n M q t w z d

  -- At first nothing is written, and the rule's first word is next.
  pub writing_first : (R : List ℕ) (x : ℕ) → x ≡ get_or P at 0 → Writing F P levels at n R 0 (at + 1) (x / plan_unit) (x % plan_unit)
  writing_first R x e =
      record {
        part = λ M q t w d.
            let a = named_rule F P at levels n M q t w d in
            rw e (record { acc = []; u = a.u; v = a.v; cs = a.cs; front = refl; size = refl; spot = a.spot; rest = a.rest; whole = a.whole });
      }

-- A word that is next is put behind what is there.
part_put : {F P R : List ℕ} {M : Table} {levels place : ℕ} {w : Word} {end next left p : ℕ} (h : PartWritten F P R M levels place w end next left p)
    (R₁ : List ℕ) (end₁ : ℕ) → length F ≡ frames_size → length w ≤ length R → Put F p end R R₁ end₁
    → (end₁ ≡ end + length h.u) × (take end₁ R₁ ≡ h.acc ++ h.u)
part_put h R₁ end₁ b l o =
    let k = ap (λ (x : List ℕ). length x) h.whole in
    let a = o.written h.u h.cs b h.spot
    (omega (arith, k, l, h.size, length-append (h.acc ++ h.u) h.v, length-append h.acc h.u)) in
    (a.0, a.1 ∙ ap (λ (x : List ℕ). x ++ h.u) h.front)

module _ {F P : List ℕ} {levels at n : ℕ} {R : List ℕ} {end next left p : ℕ} (g : Writing F P levels at n R end next left p) (long : length R ≡ n) where
  -- Where a child is left that cannot be called for, there is none.
  pub stop_nothing : (left ≡ 0 → ⊥) → (GoesOn (levels - 1) next p → ⊥) → Nothing F P levels at n
  stop_nothing kids z M q t w d =
      let h = g.part M q t w d in
      let c = left_next h.cs h.rest (omega (arith, kids)) in
      z (record {
        level = next_level c;
        place = omega (arith, next_place c, d.inside);
        spot = omega (arith, d.bytes, spot_within F h.u h.cs p h.spot);
      })

  -- With no child left the word is written.
  pub writing_last : (R₁ : List ℕ) (end₁ : ℕ) → Put F p end R R₁ end₁ → left ≡ 0 → NodeWrites F P levels at n R₁ (record { letters = end₁; place = next })
  writing_last R₁ end₁ o z M q t w d =
      let h = g.part M q t w d in
      let a = part_put h R₁ end₁ d.bytes (omega (arith, d.fits)) o in
      let b = left_last h.cs h.rest z in
      let e : w ≡ h.acc ++ h.u = h.whole ∙ ap (λ (x : List ℕ). h.acc ++ h.u ++ x) b.0 ∙ append-nil (h.acc ++ h.u) in
      let k : length w ≡ end₁ = ap (λ (x : List ℕ). length x) e ∙ length-append h.acc h.u ∙ omega (arith, h.size, a.0) in
      record {
        letters = sym k;
        place = b.1;
        front = ap (λ (m : ℕ). take m R₁) k ∙ a.1 ∙ sym e;
      }

-- Where a word with a child behind it stands at spot p, the word behind that child stands at spot p₁.
abbrev pub Onto : List ℕ → ℕ → ℕ → Type 0
Onto F p p₁ = (u : Word) (c : Child) (cs : List Child) → Spot F u (c ∷ cs) p → Spot F c.after cs p₁

-- A word was put, and the call for the child that is next, to which the room is lent on from its end, left ys there and answered r.
pub record Called (F P : List ℕ) (levels : ℕ) (R : List ℕ) (end next left p : ℕ) (R₁ : List ℕ) (end₁ : ℕ) (ys : List ℕ) (r : Written) : Type 0 where
  pub put : Put F p end R R₁ end₁
  pub wrote : NodeWrites F P (levels - 1) next (length (take (length R₁ - end₁) (drop end₁ R₁))) ys r
  pub tidy : Tidy (take (length R₁ - end₁) (drop end₁ R₁)) ys r
  pub kids : left ≡ 0 → ⊥

-- What a lent part holds at its front stands behind what is there.
part_front : (R ys more : List ℕ) (e m : ℕ) → e ≤ length R → m ≤ length ys → take (e + m) (take e R ++ (ys ++ more)) ≡ take e R ++ take m ys
part_front R ys more e m l h =
    ap (λ (k : ℕ). take (k + m) (take e R ++ (ys ++ more))) (sym (length-take-le e R l)) ∙ take-append-add (take e R) (ys ++ more) m
    ∙ ap (λ (x : List ℕ). take e R ++ x) (take-append-le m ys more h)

module _ {F P : List ℕ} {levels : ℕ} {R : List ℕ} {end next left p : ℕ} {R₁ : List ℕ} {end₁ : ℕ} {ys : List ℕ} {r : Written}
    (b : Called F P levels R end next left p R₁ end₁ ys r) where
  -- As many letters are lent as are left.
  called_room : length (take (length R₁ - end₁) (drop end₁ R₁)) ≡ length R₁ - end₁
  called_room = simp (length-take, length-drop) (omega arith)

  -- The call keeps the room's length.
  pub called_long : length (put_mid end₁ (length R₁ - end₁) R₁ ys) ≡ length R
  called_long = same_len_mid end₁ (length R₁ - end₁) R₁ ys b.tidy.long ∙ b.put.long

  -- The call's letters are within the room.
  pub called_letters : end₁ + r.letters ≤ length R
  called_letters = omega (arith, called_room, b.tidy.letters, b.put.within, b.put.long)

  module _ {at n : ℕ} (g : Writing F P levels at n R end next left p) (long : length R ≡ n)
      (M : Table) (q : ℕ) (t : Tree) (w : Word) (d : Due F P at levels n M q t w) where
    -- What held before the word was put.
    abbrev before : PartWritten F P R M (levels - 1) (at + length (preorder t)) w end next left p
    before = g.part M q t w d

    -- The word was put.
    word_put : (end₁ ≡ end + length before.u) × (take end₁ R₁ ≡ before.acc ++ before.u)
    word_put = part_put before R₁ end₁ d.bytes (omega (arith, d.fits)) b.put

    -- The child that is next.
    child_next : NextToWrite F P M (levels - 1) (at + length (preorder t)) before.v next left before.cs
    child_next = left_next before.cs before.rest (omega (arith, b.kids))

    -- It ends within the plan.
    child_inside : next + length (preorder child_next.t) ≤ tree_most
    child_inside = omega (arith, d.inside, child_next.rest.passed)

    -- Its word has room.
    child_fits : length child_next.x ≤ length R₁ - end₁
    child_fits =
        let c = child_next in
        let k = ap (λ (z : List ℕ). length z) before.whole in
        let m = ap (λ (z : List ℕ). length z) c.whole in
        let j = length-append (before.acc ++ before.u) before.v in
        let i = length-append before.acc before.u in
        omega (arith, k, m, long, b.put.long, d.fits, before.size, word_put.0, j, i, length-append c.x (c.child.after ++ c.y))

    -- Its word is written.
    child_written : WordWritten child_next.x next (length (preorder child_next.t)) ys r
    child_written =
        let c = child_next in
        b.wrote M c.child.state c.t c.x
        (record { bytes = d.bytes; planned = c.planned; levels = c.low; inside = child_inside; word = c.writes; fits = rw called_room child_fits })

    -- The word after it is next.
    part_more : (p₁ : ℕ) → Onto F p p₁
        → PartWritten F P (put_mid end₁ (length R₁ - end₁) R₁ ys) M (levels - 1) (at + length (preorder t)) w (end₁ + r.letters) r.place (left - 1) p₁
    part_more p₁ onto =
        let c = child_next in
        let s = child_written in
        let x = s.letters in
        let y = s.place in
        record {
          acc = before.acc ++ before.u ++ c.x;
          u = c.child.after;
          v = c.y;
          cs = c.others;
          front =
              part_front R₁ ys (drop (length R₁ - end₁) (drop end₁ R₁)) end₁ (r.letters) (omega (arith, b.put.within, b.put.long))
              (omega (arith, b.tidy.letters, b.tidy.long))
              ∙ ap (λ (z : List ℕ). z ++ take (r.letters) ys) word_put.1
              ∙ ap (λ (k : ℕ). before.acc ++ before.u ++ take k ys) x
              ∙ ap (λ (z : List ℕ). before.acc ++ before.u ++ z) s.front;
          size = omega (arith, x, word_put.0, before.size, length-append (before.acc ++ before.u) c.x, length-append before.acc before.u);
          spot = onto before.u c.child c.others (subst (λ (l : List Child). Spot F before.u l p) c.are before.spot);
          rest =
              subst⁻¹ (λ (k : ℕ). ChildrenToWrite F P M (levels - 1) (at + length (preorder t)) c.y k (left - 1) c.others) y c.rest;
          whole = before.whole ∙ ap (λ (z : List ℕ). before.acc ++ before.u ++ z) c.whole ∙ simp append_assoc;
        }

  -- One child more is written, and the word after it is next.
  pub writing_more : {at n : ℕ} → Writing F P levels at n R end next left p → length R ≡ n → (p₁ : ℕ) → Onto F p p₁
      → Writing F P levels at n (put_mid end₁ (length R₁ - end₁) R₁ ys) (end₁ + r.letters) r.place (left - 1) p₁
  writing_more g long p₁ onto = record { part = λ M q t w d. part_more g long M q t w d p₁ onto }
