-- Spots: going through the words and the children of a rule.
use Rattle.std.proofs.Common.{◌≡◌, ℕ, ◌+◌, ◌<◌, ◌≤◌, List, ◌∷◌, ◌++◌, length, get_or, drop, sym, ap, ◌∙◌, append_assoc, arith, length-append, length-drop}
use Rattle.words.specs.Word.{Word}
use Rattle.machine.specs.Machine.{Child, Rule}
use Rattle.text.specs.Writing.{text_of, children_text}
use Rattle.layout.specs.Layout.{rule_text}
use Rattle.layout.specs.Leaves.{word_at, behind_at, RuleAt, Spot}
use Rattle.layout.proofs.Stretches.{byte_here, byte_behind, word_here, word_behind, child_state}

-- A rule's first word at a spot with all its children behind it are the rule's bytes.
pub spot_rule : (F : List ℕ) (p : ℕ) (r : Rule) → Spot F r.first r.rest p → RuleAt F p r
unfolding rule_text
spot_rule F p r h =
    record { behind = h.behind; bytes = h.bytes ∙ sym (append_assoc (text_of r.first) (children_text r.rest) h.behind) }

module _ (F : List ℕ) (u : Word) (cs : List Child) (p : ℕ) (s : Spot F u cs p) where
  -- The word at a spot is read there.
  pub spot_word : word_at F p ≡ u
  spot_word = word_here F p u (children_text cs ++ s.behind) s.bytes

  -- Its length byte stands there.
  pub spot_byte : get_or F p 0 ≡ length u
  spot_byte = byte_here F p (length u) (u ++ (children_text cs ++ s.behind)) s.bytes

  -- It stands inside the lent bytes.
  pub spot_within : p + 1 + length u ≤ length F
  spot_within = omega (arith, simp (length-drop, length-append) at (ap length s.bytes))

  -- The children stand behind it.
  spot_behind : drop (behind_at F p) F ≡ children_text cs ++ s.behind
  spot_behind = word_behind F p u (children_text cs ++ s.behind) s.bytes

module _ (F : List ℕ) (u : Word) (c : Child) (cs : List Child) (p : ℕ) (s : Spot F u (c ∷ cs) p) where
  -- The state of the child behind it is read behind it.
  pub spot_state : get_or F (behind_at F p) 0 ≡ c.state
  spot_state = child_state F (behind_at F p) c cs s.behind (spot_behind F u (c ∷ cs) p s)

  -- The word behind that child stands at the next spot.
  pub spot_next : Spot F c.after cs (behind_at F p + 1)
  unfolding children_text
  spot_next =
      record {
        behind = s.behind;
        bytes =
            byte_behind F (behind_at F p) c.state (text_of c.after ++ (children_text cs ++ s.behind))
            (spot_behind F u (c ∷ cs) p s ∙ append_assoc (c.state ∷ text_of c.after) (children_text cs) s.behind);
      }

  -- It stands inside the lent bytes.
  pub spot_inside : behind_at F p + 1 < length F
  spot_inside = omega (arith, simp length-drop at (ap length spot_next.bytes))
