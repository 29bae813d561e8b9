-- What is told of the record of tree bytes, and what the room holds after it. Assumes nothing.
use mathlib.Core.Path.{◌≡◌, refl, sym, ap, subst⁻¹, ◌∙◌}
use mathlib.Core.List.{List}
use mathlib.Core.Logic.{◌⊎◌}
use Prim.Native.Nat.{ℕ, ◌-◌, ◌<◌, ◌≤◌}
use native.Mathlib.Omega.{arith}
use lib.ListN.{length, length-map}
use Rattle.words.specs.declared.No.{No}
use Rattle.words.specs.Reply.{Reply, given, refusal, refused, ◌then◌}
use Rattle.words.proofs.Replies.{given_refused, refusal_injective, then_given}
use Rattle.machine.specs.Machine.{Table}
use Rattle.trees.specs.Shape.{read_tree, tree_most}
use Rattle.trees.proofs.Whole.{wrong_size_lem}
use Rattle.records.specs.Records.{Element, bytes_of, unspell}
use Rattle.records.specs.Symbols.{last_symbol}
use Rattle.records.specs.Back.{back}
use Rattle.records.specs.Calls.{record_of}
use Rattle.records.proofs.Symbols.{last_given}
use Rattle.records.proofs.Counter.{plain}
use Rattle.records.proofs.Loop.{bytes_written}
use Rattle.promises.specs.Room.{into}
use Rattle.promises.specs.Records.{record_of_tree}
use Rattle.spelling.specs.Spells.{Spells}
use Rattle.tree_record_call.specs.ImageTold.{image_told, all_but_last, stream_of}
use Rattle.tree_record_call.proofs.Images.{front_long}

-- ---- what is told

module _ (M : Table) (bs : List ℕ) where
  -- 20 for the list.
  pub symbols_refused : {x : No} → refusal x ≡ last_symbol M.arities → record_of_tree M bs ≡ refusal x
  unfolding record_of_tree record_of
  symbols_refused e = rw (← e)

  module _ (a : ℕ) (e : last_symbol M.arities ≡ given a) where
    -- Under a list for records it is the stream of the record of which the tree is the image.
    tree_told : record_of_tree M bs ≡ (read_tree M.arities bs then back a then λ r. given (bytes_of r))
    unfolding record_of_tree record_of
    tree_told = rw e

    -- 6 for the size.
    pub size_refused : (length bs ≡ 0) ⊎ (tree_most < length bs) → record_of_tree M bs ≡ refused 6 0
    unfolding read_tree
    size_refused h = tree_told ∙ (rw (wrong_size_lem bs h))

    -- The refusal of the image.
    pub image_refused : {x : No} → refusal x ≡ image_told M.arities a bs → record_of_tree M bs ≡ refusal x
    unfolding image_told
    image_refused {x} h = tree_told ∙ go (read_tree M.arities bs then back a) h
      where
        go : (o : Reply Element) → refusal x ≡ plain o → (o then λ r. given (bytes_of r)) ≡ refusal x
        go (given r) k = absurd (given_refused tt x.number x.place (sym k))
        go (refusal y) k = ap (λ (z : No). refusal z) (sym (refusal_injective {A = Unit {0}} x y k))

    -- The stream.
    pub image_given : a ≤ 255 → 0 < length bs → given tt ≡ image_told M.arities a bs → record_of_tree M bs ≡ given (stream_of a bs)
    unfolding image_told
    image_given m l h = tree_told ∙ go (read_tree M.arities bs then back a) refl h
      where
        go : (o : Reply Element) → (read_tree M.arities bs then back a) ≡ o → given tt ≡ plain o
            → (o then λ r. given (bytes_of r)) ≡ given (stream_of a bs)
        go (given r) i k =
            let t = then_given (read_tree M.arities bs) (back a) r i in
            let s = (last_given M.arities a).0 e in
            ap (λ (z : List ℕ). given z) (sym (bytes_written M.arities a s bs (length bs - 1) t.0 r m (omega arith) t.1 t.2))
        go (refusal x) i k = absurd (given_refused tt x.number x.place k)

-- ---- the room

-- What is told of an output is told of an answer that gives it.
pub given_spells : (R R' : List ℕ) {o : Reply (List ℕ)} {out : List ℕ} {r : Reply ℕ} → o ≡ given out → Spells (into (length R) (given out)) R R' r
    → Spells (into (length R) o) R R' r
given_spells R R' {r = r} e h = subst⁻¹ (λ (z : Reply (List ℕ)). Spells (into (length R) z) R R' r) e h

-- The stream is as long as all but the last byte.
pub stream_long : (a : ℕ) (bs : List ℕ) → length (stream_of a bs) ≡ length bs - 1
stream_long a bs = length-map (all_but_last bs) (unspell a) ∙ front_long bs
