-- Pieces of the lent bytes, and words that are put into a room behind what is there.
use Rattle.std.proofs.Common.{
  ◌≡◌,
  ℕ,
  ◌+◌,
  ◌<◌,
  ◌≤◌,
  List,
  ◌++◌,
  length,
  get_or,
  take,
  drop,
  set,
  sym,
  refl,
  ap,
  ◌∙◌,
  append_assoc,
  add-one,
  arith,
  length-drop,
  length-take-le,
  get_or-drop,
  take-suc,
  take-take,
  drop-drop,
  take-suc-set,
  take-add,
}
use lib.Seq.{take-paste, take-append-add, take-append-le}
use Rattle.words.specs.Word.{Word}
use Rattle.machine.specs.Machine.{Child}
use Rattle.layout.specs.Layout.{frames_size}
use Rattle.layout.specs.Leaves.{Spot, Put}
use Rattle.word_leaves.proofs.Spots.{spot_word, spot_byte, spot_within}

-- One byte more of a piece is read.
pub piece_grows : (F piece : List ℕ) (from i : ℕ) → i < length piece → from + i < length F → take i piece ≡ take i (drop from F)
    → take (i + 1) (set piece i (get_or F (from + i) 0)) ≡ take (i + 1) (drop from F)
piece_grows F piece from i h l e =
    let b : i < length (drop from F) = simp length-drop (omega arith) in
    rw (add-one, take-suc-set piece i (get_or F (from + i) 0), take-suc (drop from F) i 0, e, get_or-drop)

-- Where no word stands, or it has no room, nothing is put.
pub put_none : (F R : List ℕ) (p at : ℕ) → at ≤ length R
    → ((u : Word) (cs : List Child) → length F ≡ frames_size → Spot F u cs p → at + length u ≤ length R → ⊥) → Put F p at R R at
put_none F R p at l h = record { start = omega arith; within = l; long = refl; written = λ u cs e s f. absurd (h u cs e s f) }

module _ (F R R' : List ℕ) (p at n : ℕ) (byte : n ≡ get_or F p 0) (fits : at + n ≤ length R) (long : length R' ≡ length R) where
  -- A word was put, if so many bytes from behind its length byte on were.
  put_bytes : ((u : Word) (cs : List Child) → length F ≡ frames_size → Spot F u cs p → take (at + n) R' ≡ take at R ++ take n (drop (p + 1) F))
      → Put F p at R R' (at + n)
  put_bytes h =
      record {
        start = omega arith;
        within = fits;
        long = long;
        written = λ u cs e s f. (
          omega (arith, spot_byte F u cs p s),
          h u cs e s ∙ ap (λ (k : ℕ). take at R ++ take k (drop (p + 1) F)) byte ∙ ap (λ (x : List ℕ). take at R ++ x) (spot_word F u cs p s),
        );
      }

  -- A word was copied byte by byte.
  pub put_copied : (p + 1 + n ≤ length F → R' ≡ take at R ++ take n (drop (p + 1) F) ++ drop (at + n) R) → Put F p at R R' (at + n)
  put_copied h = put_bytes λ u cs e s.
      let i : p + 1 + n ≤ length F = omega (arith, spot_byte F u cs p s, spot_within F u cs p s) in
      let m : n ≤ length (drop (p + 1) F) = simp length-drop (omega arith) in
      ap (λ (x : List ℕ). take (at + n) x) (h i) ∙ take-paste R at (drop (p + 1) F) n (omega arith) m

-- Two pieces that were stored one behind the other have the first 32 bytes of S behind what is there, and so the first n.
stored : (R R₁ R₂ p₁ p₂ S : List ℕ) (at n : ℕ) → n ≤ 32 → at + 32 ≤ length R → 32 ≤ length S → p₁ ≡ take 16 S → p₂ ≡ take 16 (drop 16 S)
    → R₁ ≡ take at R ++ p₁ ++ drop (at + 16) R → R₂ ≡ take (at + 16) R₁ ++ p₂ ++ drop (at + 16 + 16) R₁ → take (at + n) R₂ ≡ take at R ++ take n S
stored R R₁ R₂ p₁ p₂ S at n h l s e₁ e₂ r₁ r₂ =
    let more : List ℕ = drop (at + 16 + 16) R₁ in
    let first : take (at + 16) R₁ ≡ take at R ++ take 16 S =
    ap (λ (x : List ℕ). take (at + 16) x) (r₁ ∙ rw e₁ refl) ∙ take-paste R at S 16 (omega arith) (omega arith) in
    let whole : R₂ ≡ take at R ++ (take 32 S ++ more) =
    r₂ ∙ rw (first, e₂, append_assoc (take at R), ← take-add 16 16 S, append_assoc (take at R)) refl in
    let k : length (take at R) ≡ at = length-take-le at R (omega arith) in
    let front : take n (take 32 S ++ more) ≡ take n S = take-append-le n (take 32 S) more (rw (length-take-le 32 S s) h) ∙ take-take n 32 S h in
    ap (λ (x : List ℕ). take (at + n) x) whole ∙ ap (λ (j : ℕ). take (j + n) (take at R ++ (take 32 S ++ more))) (sym k)
    ∙ take-append-add (take at R) (take 32 S ++ more) n ∙ ap (λ (x : List ℕ). take at R ++ x) front

-- A word was copied 16 bytes and 16 bytes at a time.
pub put_stored : (F R R₁ R₂ p₁ p₂ : List ℕ) (p at n : ℕ) → n ≡ get_or F p 0 → n ≤ 32 → at + 32 ≤ length R → p + 32 < frames_size → length R₂ ≡ length R
    → (p + 1 + 16 ≤ length F → p₁ ≡ take 16 (drop (p + 1) F)) → (p + 17 + 16 ≤ length F → p₂ ≡ take 16 (drop (p + 17) F))
    → R₁ ≡ take at R ++ p₁ ++ drop (at + 16) R → R₂ ≡ take (at + 16) R₁ ++ p₂ ++ drop (at + 16 + 16) R₁ → Put F p at R R₂ (at + n)
put_stored F R R₁ R₂ p₁ p₂ p at n byte h l a long e₁ e₂ r₁ r₂ = put_bytes F R R₂ p at n byte (omega arith) long λ u cs e s.
    let S : List ℕ = drop (p + 1) F in
    let m : 32 ≤ length (drop (p + 1) F) = simp length-drop (omega arith) in
    let j : p + 17 ≡ p + 1 + 16 = omega arith in
    let d : drop (p + 17) F ≡ drop 16 S = ap (λ (k : ℕ). drop k F) j ∙ sym (drop-drop 16 (p + 1) F) in
    stored R R₁ R₂ p₁ p₂ S at n h l m (e₁ (omega arith)) (e₂ (omega arith) ∙ ap (λ (x : List ℕ). take 16 x) d) r₁ r₂
