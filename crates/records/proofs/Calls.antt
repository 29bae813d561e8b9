-- What is written as a tree is turned back into the same stream, and the other way round; what is refused, and why.
use mathlib.Core.Path.{◌≡◌, refl, sym, ap, ◌∙◌}
use mathlib.Core.List.{List}
use mathlib.Core.Logic.{◌⊎◌, inl, inr, ⊎_elim, ◌↔◌}
use Prim.Native.Nat.{ℕ, ◌<◌, ◌≤◌}
use native.Mathlib.Omega.{arith}
use lib.ListN.{length}
use Rattle.words.specs.Reply.{Reply, given, refused, ◌then◌}
use Rattle.words.proofs.Replies.{given_refused, given_injective, then_given, then_refused}
use Rattle.machine.specs.Machine.{Tree}
use Rattle.trees.specs.Preorder.{preorder}
use Rattle.trees.specs.Shape.{read_tree, tree_most, depth_most}
use Rattle.trees.proofs.Whole as Whole
use Rattle.records.specs.Records.{Element, Labels, bytes_of, size, image}
use Rattle.records.specs.Stream.{read_record}
use Rattle.records.specs.Symbols.{RecordSymbols, last_symbol}
use Rattle.records.specs.Back.{back}
use Rattle.records.specs.Depth.{depth}
use Rattle.records.specs.Calls.{spelled, tree_of, record_of}
use Rattle.records.proofs.Image.{image_length}
use Rattle.records.proofs.Depth.{image_levels}
use Rattle.records.proofs.Ranked.{image_refused, ranked_read}
use Rattle.records.proofs.Sound.{read_sound}
use Rattle.records.proofs.Complete.{read_back}
use Rattle.records.proofs.Symbols.{last_given}
use Rattle.records.proofs.Back.{back_image, image_ranked, back_sound, back_none}

-- The stream s is that of record r, whose labels are in the list ar with last symbol a, and bs are the bytes of its image.
pub record SpelledAs (ar s bs : List ℕ) (a : ℕ) (r : Element) : Type 0 where
  pub symbols : RecordSymbols ar a
  pub labels : Labels a r
  pub stream : s ≡ bytes_of r
  pub image : bs ≡ preorder (image a r)

-- A stream is spelled exactly as the image of the record whose stream it is.
pub spelled_as : (ar s bs : List ℕ) → spelled ar s ≡ given bs → (a : ℕ) × (r : Element) × SpelledAs ar s bs a r
unfolding spelled
spelled_as ar s bs e =
    let i = then_given (last_symbol ar) _ bs e in
    let j = then_given (read_record i.0 s) _ bs i.2 in
    let k = read_sound i.0 s j.0 j.1 in
    (i.0, j.0, record { symbols = (last_given ar i.0).0 i.1; labels = k.1; stream = k.0; image = sym (given_injective _ bs j.2) })

-- It is refused exactly for its symbol list, or behind that for the stream's own causes.
pub spelled_refused : (ar s : List ℕ) (n p : ℕ)
    → (spelled ar s ≡ refused n p) ↔ ((last_symbol ar ≡ refused n p) ⊎ ((a : ℕ) × (last_symbol ar ≡ given a) × (read_record a s ≡ refused n p)))
unfolding spelled
spelled_refused ar s n p = (there, back)
  where
    after : ℕ → Reply (List ℕ)
    after a = read_record a s then λ r. given (preorder (image a r))

    there : (last_symbol ar then after) ≡ refused n p → (last_symbol ar ≡ refused n p) ⊎
        ((a : ℕ) × (last_symbol ar ≡ given a) × (read_record a s ≡ refused n p))
    there e =
        ⊎_elim (λ i. inl i)
        (λ i. ⊎_elim (λ j. inr (i.0, i.1, j)) (λ j. absurd (given_refused _ n p j.2)) (then_refused (read_record i.0 s) _ n p i.2))
        (then_refused (last_symbol ar) after n p e)

    back : (last_symbol ar ≡ refused n p) ⊎ ((a : ℕ) × (last_symbol ar ≡ given a) × (read_record a s ≡ refused n p)) → (last_symbol ar then after) ≡ refused n p
    back (inl i) = rw i
    back (inr i) = rw (i.1, i.2)

module _ (ar : List ℕ) (few : length ar ≤ 256) where
  -- The last symbol is a byte other than ff, or ff where there are 256 symbols.
  last_byte : (a : ℕ) → RecordSymbols ar a → a ≤ 255
  last_byte a s = omega (arith, s.many, few)

  pub as_spelled : (s bs : List ℕ) (a : ℕ) (r : Element) → SpelledAs ar s bs a r → spelled ar s ≡ given bs
  unfolding spelled
  as_spelled s bs a r h =
      let i = (last_given ar a).1 h.symbols in
      let j : read_record a s ≡ given r = ap (read_record a) h.stream ∙ read_back a r (last_byte a h.symbols) h.labels in
      rw (i, j, h.image)

  -- Theorem. The tree of a stream has a record, and that has the stream; and the other way round, within the limits of both.
  pub tree_record : (s bs : List ℕ) → tree_of ar s ≡ given bs → record_of ar bs ≡ given s
  unfolding tree_of record_of
  tree_record s bs e =
      let i = then_given (spelled ar s) _ bs e in
      let h = spelled_as ar s i.0 i.1 in
      let j = then_given (read_tree ar i.0) _ bs i.2 in
      let k : i.0 ≡ bs = given_injective _ bs j.2 in
      let a = h.0 in
      let r = h.1 in
      let t : image a r ≡ j.0 = ranked_read ar (image a r) j.0 (image_ranked ar a h.2.symbols r h.2.labels)
      (ap (read_tree ar) (sym h.2.image) ∙ j.1) in
      let g : read_tree ar bs ≡ given (image a r) = ap (read_tree ar) (sym k) ∙ j.1 ∙ ap (λ (z : Tree). given z) (sym t) in
      rw ((last_given ar a).1 h.2.symbols, g, back_image a r) (ap (λ (z : List ℕ). given z) (sym h.2.stream))

  pub record_tree : (bs s : List ℕ) → record_of ar bs ≡ given s → tree_of ar s ≡ given bs
  unfolding tree_of record_of
  record_tree bs s e =
      let i = then_given (last_symbol ar) _ s e in
      let j = then_given (read_tree ar bs then back i.0) _ s i.2 in
      let k = then_given (read_tree ar bs) (back i.0) j.0 j.1 in
      let w = Whole.read_sound ar bs k.0 k.1 in
      let y = (last_given ar i.0).0 i.1 in
      let b = back_sound ar i.0 y k.0 j.0 w.1 k.2 in
      let h : SpelledAs ar s bs i.0 j.0 = record {
        symbols = y;
        labels = b.1;
        stream = sym (given_injective _ s j.2);
        image = w.0
            ∙ ap preorder b.0;
      } in
      rw (as_spelled s bs i.0 j.0 h, k.1)

  -- Theorem. Each direction undoes the other.
  pub each_undoes : (s bs : List ℕ) → (tree_of ar s ≡ given bs) ↔ (record_of ar bs ≡ given s)
  each_undoes s bs = (tree_record s bs, record_tree bs s)

  -- Theorem. Within the limits every record has its tree: at most 64 levels, siblings counted, and at most 16,383 elements.
  pub tree_given : (a : ℕ) (r : Element) → RecordSymbols ar a → Labels a r
      → (tree_of ar (bytes_of r) ≡ given (preorder (image a r))) ↔ ((depth r ≤ depth_most) × (size r ≤ 16383))
  unfolding tree_of
  tree_given a r S h = (λ e. there (sym step ∙ e), λ k. step ∙ back_there k)
    where
      m : a ≤ 255
      m = last_byte a S

      after : List ℕ → Reply (List ℕ)
      after bs = read_tree ar bs then λ t. given bs

      step : (spelled ar (bytes_of r) then after) ≡ after (preorder (image a r))
      step =
          ap (λ (z : Reply (List ℕ)). z then after)
          (as_spelled (bytes_of r) (preorder (image a r)) a r (record { symbols = S; labels = h; stream = refl; image = refl }))

      there : after (preorder (image a r)) ≡ given (preorder (image a r)) → (depth r ≤ depth_most) × (size r ≤ 16383)
      there e =
          let j = then_given (read_tree ar (preorder (image a r))) _ (preorder (image a r)) e in
          let t = ranked_read ar (image a r) j.0 (image_ranked ar a S r h) j.1 in
          let i = Whole.read_sound ar (preorder (image a r)) (image a r) (j.1 ∙ ap (λ (z : Tree). given z) (sym t)) in
          ((image_levels a r depth_most).0 i.2, omega (arith, i.3, image_length a r m h))

      back_there : (depth r ≤ depth_most) × (size r ≤ 16383) → after (preorder (image a r)) ≡ given (preorder (image a r))
      back_there k =
          rw (Whole.read_complete ar (preorder (image a r)) (image a r) refl (image_ranked ar a S r h) ((image_levels a r depth_most).1 k.0)
          (omega (arith, k.1, image_length a r m h)))

-- Why a record has no tree: its stream is refused; or it is a record's, and the tree is refused with 6 for its length, or with 10.
pub data TreeCause (ar s : List ℕ) (n p : ℕ) : Type 0 where
  stream : spelled ar s ≡ refused n p → TreeCause ar s n p
  long : (bs : List ℕ) → spelled ar s ≡ given bs → n ≡ 6 → p ≡ 0 → tree_most < length bs → TreeCause ar s n p
  deep : (bs : List ℕ) → spelled ar s ≡ given bs → n ≡ 10 → read_tree ar bs ≡ refused 10 p → TreeCause ar s n p

-- Theorem. So it is: 7, 8 and 11 cannot come.
pub tree_refused : (ar s : List ℕ) (n p : ℕ) → tree_of ar s ≡ refused n p → TreeCause ar s n p
unfolding tree_of
tree_refused ar s n p e =
    ⊎_elim (λ i. stream i) (λ i. go i.0 i.1 (spelled_as ar s i.0 i.1) (then_refused (read_tree ar i.0) _ n p i.2))
    (then_refused (spelled ar s) _ n p e)
  where
    go : (bs : List ℕ) → spelled ar s ≡ given bs → ((a : ℕ) × (r : Element) × SpelledAs ar s bs a r)
        → (read_tree ar bs ≡ refused n p) ⊎ ((t : Tree) × (read_tree ar bs ≡ given t) × (given bs ≡ refused n p)) → TreeCause ar s n p
    go bs i h (inl k) =
        ⊎_elim (λ c. long bs i c.0 c.1 (rw h.2.image c.2))
        (λ c. deep bs i c (k ∙ ap (λ (z : ℕ). refused z p) c))
        (image_refused ar h.0 h.2.symbols h.1 n p h.2.labels (ap (read_tree ar) (sym h.2.image) ∙ k))
    go bs i h (inr k) = absurd (given_refused bs n p k.2)

-- Theorem. Behind the tree's own refusals 24 is told exactly for trees that are no record's image.
pub record_none : (ar bs : List ℕ) (a : ℕ) (t : Tree) → last_symbol ar ≡ given a → read_tree ar bs ≡ given t
    → ((p : ℕ) × (record_of ar bs ≡ refused 24 p)) ↔ ((r : Element) → t ≡ image a r → ⊥)
unfolding record_of
record_none ar bs a t e k =
    let w = Whole.read_sound ar bs t k in
    let S = (last_given ar a).0 e in
    let b = back_none ar a S t w.1 in
    (λ g. b.0 (there g.0 g.1), λ f. here (b.1 f))
  where
    end : Element → Reply (List ℕ)
    end r = given (bytes_of r)

    step : (last_symbol ar then λ x. read_tree ar bs then back x then end) ≡ (back a t then end)
    step = rw (e, k)

    there : (p : ℕ) → (last_symbol ar then λ x. read_tree ar bs then back x then end) ≡ refused 24 p → (p : ℕ) × (back a t ≡ refused 24 p)
    there p g =
        ⊎_elim (λ c. (p, c)) (λ c. absurd (given_refused (bytes_of c.0) 24 p c.2)) (then_refused (back a t) end 24 p (sym step ∙ g))

    here : (p : ℕ) × (back a t ≡ refused 24 p) → (p : ℕ) × ((last_symbol ar then λ x. read_tree ar bs then back x then end) ≡ refused 24 p)
    here g = (g.0, step ∙ ap (λ (z : Reply Element). z then end) g.1)
