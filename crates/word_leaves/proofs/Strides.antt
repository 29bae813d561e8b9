-- Going through a rule's words by their lengths.
use Rattle.std.proofs.Common.{◌≡◌, ℕ, ◌+◌, ◌%◌, ◌^◌, ◌<◌, List, ◌∷◌, ◌++◌, length, get_or, sym, ap, ◌∙◌, subst, arith, get_or-drop}
use lib.ListN.{get_or-append}
use Rattle.words.specs.Word.{Word}
use Rattle.machine.specs.Machine.{Child}
use Rattle.text.specs.Writing.{children_text}
use Rattle.layout.specs.Leaves.{behind_at, Spot}
use Rattle.layout.proofs.Stretches.{byte_behind}
use Rattle.word_leaves.proofs.Spots.{spot_byte, spot_within, spot_state, spot_next, spot_inside}

module _ (F : List ℕ) (u : Word) (cs : List Child) (p : ℕ) (s : Spot F u cs p) where
  -- Letter k stands behind the word's length.
  spot_letter : (k : ℕ) → k < length u → get_or F (p + 1 + k) 0 ≡ get_or u k 0
  spot_letter k l =
      let more = children_text cs ++ s.behind in
      sym (get_or-drop (p + 1) F k 0) ∙ ap (λ (t : List ℕ). get_or t k 0) (byte_behind F p (length u) (u ++ more) s.bytes) ∙ get_or-append u more 0 k l

  -- Letter k, read by a sum that could wrap but does not.
  pub stride_letter : length F < 2 ^ 64 → (k j : ℕ) → k < length u → j ≡ (p + (k + 1)) % 2 ^ 64 → get_or F j 0 ≡ get_or u k 0
  stride_letter fits k j l e = ap (λ (i : ℕ). get_or F i 0) (omega (arith, spot_within F u cs p s, e)) ∙ spot_letter k l

module _ (F : List ℕ) (u : Word) (c : Child) (cs : List Child) (p : ℕ) (s : Spot F u (c ∷ cs) p) (fits : length F < 2 ^ 64) (n : ℕ) (e : n ≡ length u) where
  -- The state of the child behind the word, read the same way.
  pub stride_state : (j : ℕ) → j ≡ (p + (n + 1)) % 2 ^ 64 → get_or F j 0 ≡ c.state
  stride_state j d =
      ap (λ (i : ℕ). get_or F i 0) (omega (arith, spot_inside F u c cs p s, spot_byte F u (c ∷ cs) p s, d)) ∙ spot_state F u c cs p s

  -- The spot of the word behind that child.
  pub stride_next : (j : ℕ) → j ≡ (p + (n + 2)) % 2 ^ 64 → Spot F c.after cs j
  stride_next j d =
      let same : behind_at F p + 1 ≡ j = omega (arith, spot_inside F u c cs p s, spot_byte F u (c ∷ cs) p s, d) in
      subst (λ (i : ℕ). Spot F c.after cs i) same (spot_next F u c cs p s)
