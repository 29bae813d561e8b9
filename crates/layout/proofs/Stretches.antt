-- Reading bytes where they stand: a byte, a word, a child's state.
use mathlib.Core.Path.{◌≡◌, sym, ap, ◌∙◌}
use mathlib.Core.List.{List, ◌∷◌, ◌++◌, append_assoc}
use Prim.Native.Nat.{ℕ, ◌+◌}
use native.Mathlib.Nat.{add-zero}
use lib.ListN.{length, get_or, take, drop}
use lib.Seq.{take-append_seam, drop-append_seam, get_or-drop, drop-drop}
use Rattle.words.specs.Word.{Word}
use Rattle.machine.specs.Machine.{Child}
use Rattle.text.specs.Writing.{text_of, children_text}
use Rattle.layout.specs.Leaves.{word_at, behind_at}

-- A byte stands at p if it comes first from p on.
pub byte_here : (F : List ℕ) (p x : ℕ) (more : List ℕ) → drop p F ≡ x ∷ more → get_or F p 0 ≡ x
byte_here F p x more e =
    ap (λ (k : ℕ). get_or F k 0) (sym (add-zero p)) ∙ sym (get_or-drop p F 0 0) ∙ ap (λ (l : List ℕ). get_or l 0 0) e

-- What follows a byte follows it.
pub byte_behind : (F : List ℕ) (p x : ℕ) (more : List ℕ) → drop p F ≡ x ∷ more → drop (p + 1) F ≡ more
byte_behind F p x more e = sym (drop-drop 1 p F) ∙ ap (λ (l : List ℕ). drop 1 l) e

-- What stands some bytes further on.
pub further : (F : List ℕ) (p : ℕ) (us more : List ℕ) → drop p F ≡ us ++ more → drop (p + length us) F ≡ more
further F p us more e = sym (drop-drop (length us) p F) ∙ ap (λ (l : List ℕ). drop (length us) l) e ∙ drop-append_seam us more

-- A word whose bytes stand at p is read there.
pub word_here : (F : List ℕ) (p : ℕ) (u : Word) (more : List ℕ) → drop p F ≡ text_of u ++ more → word_at F p ≡ u
word_here F p u more e =
    ap (λ (k : ℕ). take k (drop (p + 1) F)) (byte_here F p (length u) (u ++ more) e)
    ∙ ap (λ (l : List ℕ). take (length u) l) (byte_behind F p (length u) (u ++ more) e)
    ∙ take-append_seam u more

-- What follows a word stands behind it.
pub word_behind : (F : List ℕ) (p : ℕ) (u : Word) (more : List ℕ) → drop p F ≡ text_of u ++ more → drop (behind_at F p) F ≡ more
word_behind F p u more e =
    ap (λ (k : ℕ). drop (p + 1 + k) F) (byte_here F p (length u) (u ++ more) e) ∙ further F (p + 1) u more (byte_behind F p (length u) (u ++ more) e)

module _ (F : List ℕ) (p : ℕ) (c : Child) (cs : List Child) (b : List ℕ) (e : drop p F ≡ children_text (c ∷ cs) ++ b) where
  -- A child's bytes: its state, its word, and then its younger siblings.
  child_bytes : drop p F ≡ c.state ∷ text_of c.after ++ (children_text cs ++ b)
  unfolding children_text
  child_bytes = e ∙ append_assoc (c.state ∷ text_of c.after) (children_text cs) b

  -- A child's state is the byte where it stands.
  pub child_state : get_or F p 0 ≡ c.state
  child_state = byte_here F p c.state (text_of c.after ++ (children_text cs ++ b)) child_bytes
