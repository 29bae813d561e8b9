-- Tree bytes of which all but the last are a record's stream in symbols, and the last is the last symbol, are that record's image. Assumes nothing.
use mathlib.Core.Path.{◌≡◌, refl, sym, ap, ap₂, ◌∙◌}
use mathlib.Core.List.{List, [], ◌∷◌, ◌++◌, map}
use Prim.Native.Nat.{ℕ, suc, ◌-◌, ◌<◌, ◌≤◌}
use native.Mathlib.Omega.{arith}
use native.Mathlib.Decide.{dec_lt}
use borrow.Author.Tests.{eq-eqb, ne_eqb}
use lib.ListN.{length, get_or, drop}
use lib.Seq.{length-take-le, split_at, drop-length}
use Rattle.words.specs.Reply.{Reply, given, refusal, ◌then◌, mapped}
use Rattle.machine.specs.Machine.{Tree}
use Rattle.trees.specs.Preorder.{preorder}
use Rattle.trees.specs.Shape.{read_tree}
use Rattle.records.specs.Records.{Element, Labels, close, bytes_of, image, replaced, spell, unspell}
use Rattle.records.specs.Symbols.{RecordSymbols, last_symbol}
use Rattle.records.specs.Back.{back}
use Rattle.records.proofs.Image.{spell_label}
use Rattle.records.proofs.Back.{back_image, image_ranked}
use Rattle.records.proofs.Counter.{check_given, stream_tree}
use Rattle.records.proofs.Loop.{Below, check_unspelled}
use Rattle.records.proofs.Ranked.{ranked_read}
use Rattle.records.proofs.Sound.{read_sound}
use Rattle.records.proofs.Symbols.{last_given}
use Rattle.tree_record_call.specs.ImageTold.{image_told, all_but_last, ImageBytes}
use Rattle.tree_record_call.proofs.Low.{check_low}

-- A symbol in its stream's byte and back is the symbol.
spelled_again : (a b : ℕ) → a ≤ 255 → b ≤ a → spell a (unspell a b) ≡ b
spelled_again a b m h = go (dec_lt b a)
  where
    go : Dec (b < a) → spell a (unspell a b) ≡ b
    go (yes l) = let u : unspell a b ≡ b = rw (replaced, ne_eqb b a (λ z. omega arith)) in ap (spell a) u ∙ spell_label a b m l
    go (no l) = let e : b ≡ a = omega arith in let u : unspell a b ≡ close = rw (replaced, eq-eqb b a e) in ap (spell a) u ∙ sym e

all_spelled_again : (bs : List ℕ) (a : ℕ) → a ≤ 255 → Below a bs → map (spell a) (map (unspell a) bs) ≡ bs
all_spelled_again [] a m h = refl
all_spelled_again (b ∷ bs) a m h = ap₂ ◌∷◌ (spelled_again a b m (h 0 (omega arith))) (all_spelled_again bs a m (λ i l. h (suc i) (omega arith)))

-- All bytes but the last are one fewer.
pub front_long : (bs : List ℕ) → length (all_but_last bs) ≡ length bs - 1
front_long bs = length-take-le (length bs - 1) bs (omega arith)

-- Bytes are all but the last, and the last.
last_split : (bs : List ℕ) → 0 < length bs → bs ≡ all_but_last bs ++ get_or bs (length bs - 1) 0 ∷ []
last_split bs h =
    let e : suc (length bs - 1) ≡ length bs = omega arith in
    let d : drop (suc (length bs - 1)) bs ≡ [] = rw e (drop-length bs) in
    split_at bs (length bs - 1) 0 (omega arith) ∙ ap (λ (z : List ℕ). all_but_last bs ++ get_or bs (length bs - 1) 0 ∷ z) d

-- The bytes are the image of record r, and all but the last are its stream in symbols.
pub record ImageFound (a : ℕ) (bs : List ℕ) (r : Element) : Type 0 where
  pub labels : Labels a r
  pub image : preorder (image a r) ≡ bs
  pub stream : all_but_last bs ≡ map (spell a) (bytes_of r)

pub image_found : (a : ℕ) (bs : List ℕ) → a ≤ 255 → 0 < length bs → ImageBytes a bs → (r : Element) × ImageFound a bs r
image_found a bs m l h =
    let front : List ℕ = all_but_last bs in
    let low = check_low a front h.stream in
    let g = (check_given a (map (unspell a) front)).0 (sym (check_unspelled a front m low) ∙ h.stream) in
    let s = read_sound a (map (unspell a) front) g.0 g.1 in
    let again = all_spelled_again front a m low in
    let b : preorder (image a g.0) ≡ bs = stream_tree a (map (unspell a) front) g.0 m g.1
    ∙ ap₂ (λ (x : List ℕ) (y : ℕ). x ++ y ∷ []) again (sym h.last) ∙ sym (last_split bs l) in
    (g.0, record { labels = s.1; image = b; stream = sym again ∙ ap (map (spell a)) s.0 })

-- What is told of an image is what is told of its shape.
pub found_told : (ar : List ℕ) (a : ℕ) (bs : List ℕ) (r : Element) → RecordSymbols ar a → ImageFound a bs r
    → image_told ar a bs ≡ mapped (λ t. tt) (read_tree ar (preorder (image a r)))
unfolding image_told
found_told ar a bs r s h = rw (← h.image) (go (read_tree ar (preorder (image a r))) refl)
  where
    go : (o : Reply Tree) → read_tree ar (preorder (image a r)) ≡ o → ◌≡◌ {A = Reply (Unit {0})} (mapped (λ e. tt) (o then back a)) (mapped (λ t. tt) o)
    go (given t) e =
        let i = ranked_read ar (image a r) t (image_ranked ar a s r h.labels) e in
        ap (λ (x : Tree). mapped (λ e. tt) (back a x)) (sym i) ∙ ap (λ (x : Reply Element). mapped (λ e. tt) x) (back_image a r)
    go (refusal x) e = refl

-- So what is told of the levels of each record that it may be the image of is told of it.
pub levels_image : (ar : List ℕ) (a : ℕ) (bs : List ℕ) (k : Reply (Unit {0})) → a ≤ 255 → 0 < length bs → last_symbol ar ≡ given a → ImageBytes a bs
    → ((r : Element) → RecordSymbols ar a → Labels a r → all_but_last bs ≡ map (spell a) (bytes_of r)
    → k ≡ mapped (λ t. tt) (read_tree ar (preorder (image a r))))
    → k ≡ image_told ar a bs
levels_image ar a bs k m l e h told =
    let f = image_found a bs m l h in
    let s = (last_given ar a).0 e in
    told f.0 s f.1.labels f.1.stream ∙ sym (found_told ar a bs f.0 s f.1)
