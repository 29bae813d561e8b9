-- The tree bytes of a record that was read, from what is told of the levels of its image.
use mathlib.Core.Path.{◌≡◌, refl, sym, ap, ◌∙◌}
use mathlib.Core.Bool.{Bool, true, false}
use mathlib.Core.List.{List, [], ◌∷◌, ◌++◌, map, append_assoc}
use Prim.Native.Nat.{ℕ, suc, ◌+◌, ◌<◌, ◌≤◌}
use native.Mathlib.Numerals.{add-one}
use native.Mathlib.Omega.{arith}
use borrow.Author.Tests.{eqb-true}
use lib.Dec.{eqb}
use lib.ListN.{length, drop, length-append, length-map}
use Rattle.words.specs.declared.No.{No}
use Rattle.words.specs.Reply.{Reply, given, refusal, refused, ◌then◌, mapped}
use Rattle.words.proofs.Replies.{given_refused, refusal_injective}
use Rattle.machine.specs.Machine.{Tree}
use Rattle.trees.specs.Preorder.{preorder}
use Rattle.trees.specs.Shape.{read_tree, tree_most}
use Rattle.records.specs.Records.{Element, Labels, close, bytes_of, image, spell}
use Rattle.records.specs.Symbols.{RecordSymbols}
use Rattle.records.specs.Calls.{spelled, tree_of}
use Rattle.records.proofs.Sound.{read_sound}
use Rattle.records.proofs.Symbols.{last_given}
use Rattle.records.proofs.Counter.{stream_tree}
use Rattle.read_record.specs.RecordRead.{ReadUnder}

-- ff in place of ff changes nothing.
spell_close : (bs : List ℕ) → bs ≡ map (spell close) bs
spell_close [] = refl
spell_close (b ∷ bs) = cc (one (eqb b close) refl, spell_close bs)
  where
    one : (t : Bool) → eqb b close ≡ t → b ≡ elim t [ true ↦ close | false ↦ b ]
    one true e = eqb-true b close e
    one false e = refl

-- An answer that keeps no value: what it was made of.
kept_refused : {A : Type 0} (o : Reply A) {x : No} → refusal x ≡ mapped (λ t. tt {0}) o → o ≡ refusal x
kept_refused (given t) {x} e = absurd (given_refused tt x.number x.place (sym e))
kept_refused (refusal y) {x} e = ap (λ (z : No). refusal z) (refusal_injective {A = Unit {0}} y x (sym e))

kept_given : {A : Type 0} (o : Reply A) → given (tt {0}) ≡ mapped (λ t. tt {0}) o → (t : A) × (o ≡ given t)
kept_given (given t) e = (t, refl)
kept_given (refusal y) e = absurd (given_refused tt y.number y.place e)

-- What counting the levels along a stream promises.
abbrev LevelsCounted : List ℕ → Reply (Unit {0}) → Type 0
LevelsCounted s k =
    (ar : List ℕ) (a : ℕ) (r : Element) → RecordSymbols ar a → Labels a r → a ≤ close → s ≡ map (spell close) (bytes_of r) → length s < tree_most
    → k ≡ mapped (λ t. tt {0}) (read_tree ar (preorder (image a r)))

module _ {ar s : List ℕ} {a : ℕ} (m : a ≤ 255) (u : ReadUnder ar s a) where
  -- The image of the record, spelled out.
  image_spelled : spelled ar s ≡ given (preorder (image a u.element))
  unfolding spelled
  image_spelled = rw (u.symbols, u.read)

  -- What is told of the image as a tree.
  image_told_lem : (k : Reply (Unit {0})) → LevelsCounted s k → k ≡ mapped (λ t. tt {0}) (read_tree ar (preorder (image a u.element)))
  image_told_lem k h =
      let i = read_sound a s u.element u.read in
      h ar a u.element ((last_given ar a).0 u.symbols) i.1 m (i.0 ∙ spell_close (bytes_of u.element)) u.few

  -- 10, where the image has too many levels.
  pub tree_deeper : (x : No) (k : Reply (Unit {0})) → LevelsCounted s k → k ≡ refusal x → tree_of ar s ≡ refusal x
  unfolding tree_of
  tree_deeper x k h e =
      rw (image_spelled, kept_refused (read_tree ar (preorder (image a u.element))) (sym e ∙ image_told_lem k h))

  -- The tree bytes, where it has not.
  pub tree_fits : (k : Reply (Unit {0})) → LevelsCounted s k → k ≡ given tt → tree_of ar s ≡ given (map (spell a) s ++ a ∷ [])
  unfolding tree_of
  tree_fits k h e =
      rw (image_spelled, (kept_given (read_tree ar (preorder (image a u.element))) (sym e ∙ image_told_lem k h)).1)
      (ap (λ (z : List ℕ). given z) (stream_tree a s u.element m u.read))

-- A refusal of the spelling or of the tree is the answer.
pub tree_refused : (ar s : List ℕ) {x : No} → (spelled ar s then read_tree ar) ≡ refusal x → tree_of ar s ≡ refusal x
unfolding tree_of
tree_refused ar s {x} e = go (spelled ar s) e
  where
    after : (bs : List ℕ) (o : Reply Tree) → o ≡ refusal x → (o then λ t. given bs) ≡ refusal x
    after bs o e = ap (λ (z : Reply Tree). z then λ t. given bs) e

    go : (o : Reply (List ℕ)) → (o then read_tree ar) ≡ refusal x → (o then λ bs. read_tree ar bs then λ t. given bs) ≡ refusal x
    go (given bs) e = after bs (read_tree ar bs) e
    go (refusal y) e = ap (λ (z : No). refusal z) (refusal_injective {A = Tree} y x e)

-- How many bytes there are.
pub image_bytes : (a : ℕ) (s : List ℕ) → length s + 1 ≡ length (map (spell a) s ++ a ∷ [])
image_bytes a s = omega (arith, length-append (map (spell a) s) (a ∷ []), length-map s (spell a))

-- The room after an image was put to its front.
pub image_room : (a : ℕ) (s R : List ℕ) {R' : List ℕ} → R' ≡ map (spell a) s ++ a ∷ drop (suc (length s)) R
    → R' ≡ (map (spell a) s ++ a ∷ []) ++ drop (length s + 1) R
image_room a s R e = rw (add-one, append_assoc) e
