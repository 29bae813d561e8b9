-- What is told of a stream under a symbol list, from its last symbol and what looking through the stream told.
use mathlib.Core.Path.{◌≡◌, sym, ap, ◌∙◌}
use mathlib.Core.List.{List, [], ◌∷◌, map}
use Prim.Native.Nat.{ℕ, suc, ◌<◌, ◌≤◌}
use native.Mathlib.Omega.{arith}
use lib.ListN.{length, length-append, length-map}
use Rattle.words.specs.declared.No.{No}
use Rattle.words.specs.Reply.{Reply, given, refusal, refused, ◌then◌}
use Rattle.trees.specs.Preorder.{preorder}
use Rattle.trees.specs.Shape.{read_tree, tree_most}
use Rattle.records.specs.Records.{Element, close, image, spell}
use Rattle.records.specs.Stream.{read_record}
use Rattle.records.specs.Symbols.{last_symbol}
use Rattle.records.specs.Counter.{check_stream}
use Rattle.records.specs.Calls.{spelled}
use Rattle.records.proofs.Counter.{check_given, check_refused, stream_tree}
use Rattle.records.proofs.Ranked.{tree_long}
use Rattle.read_record.specs.RecordRead.{ReadUnder}

-- An accepted stream has an image with one symbol more than it has bytes.
pub image_long : (a : ℕ) (s : List ℕ) (r : Element) → a ≤ 255 → read_record a s ≡ given r → length (preorder (image a r)) ≡ suc (length s)
image_long a s r m e =
    ap length (stream_tree a s r m e) ∙ omega (arith, length-append (map (spell a) s) (a ∷ []), length-map s (spell a))

module _ (ar s : List ℕ) where
  -- 20 for the list.
  pub symbols_refused : {x : No} → refusal x ≡ last_symbol ar → (spelled ar s then read_tree ar) ≡ refusal x
  unfolding spelled
  symbols_refused e = ap (λ (o : Reply ℕ). o then (λ a. read_record a s then λ r. given (preorder (image a r))) then read_tree ar) (sym e)

  module _ (a : ℕ) (l : last_symbol ar ≡ given a) where
    -- The image, where a record is read.
    read_spelled : (o : Reply Element) → read_record a s ≡ o → spelled ar s ≡ (o then λ r. given (preorder (image a r)))
    unfolding spelled
    read_spelled o e =
        ap (λ (z : Reply ℕ). z then λ b. read_record b s then λ r. given (preorder (image b r))) l
        ∙ ap (λ (z : Reply Element). z then λ r. given (preorder (image a r))) e

    -- The refusal of the stream.
    pub stream_refused : {x : No} → refusal x ≡ check_stream close a s → (spelled ar s then read_tree ar) ≡ refusal x
    stream_refused {x} e =
        let r = (check_refused a s x.number x.place).0 (sym e) in
        ap (λ (z : Reply (List ℕ)). z then read_tree ar) (read_spelled (refusal x) r)

    -- 6, where the image has too many symbols.
    pub image_refused : a ≤ 255 → given tt ≡ check_stream close a s → tree_most ≤ length s → (spelled ar s then read_tree ar) ≡ refused 6 0
    image_refused m e h =
        let r = (check_given a s).0 (sym e) in
        ap (λ (z : Reply (List ℕ)). z then read_tree ar) (read_spelled (given r.0) r.1)
        ∙ tree_long ar (preorder (image a r.0)) (omega (arith, image_long a s r.0 m r.1))

    -- The record that is read.
    pub stream_read : given tt ≡ check_stream close a s → length s < tree_most → ReadUnder ar s a
    stream_read e h = let r = (check_given a s).0 (sym e) in record { element = r.0; symbols = l; read = r.1; few = h }
