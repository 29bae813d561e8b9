-- Where a rule's bytes stand: its first word at a spot, with all its children behind it.
use mathlib.Core.Path.{◌∙◌}
use mathlib.Core.List.{List, append_assoc}
use Prim.Native.Nat.{ℕ, ◌+◌}
use lib.ListN.{length, take}
use Rattle.machine.specs.Machine.{Rule, Row, Table}
use Rattle.text.specs.Writing.{text_of, children_text}
use Rattle.layout.specs.Layout.{rule_text, row_frames, head_frames, Opened}
use Rattle.layout.specs.Leaves.{RuleAt, RowAt, Spot}
use Rattle.layout.proofs.Rows.{row_rule, row_there}
use Rattle.rule_leaves.proofs.Numbered.{place_of}

-- A rule's bytes are its first word at a spot with all its children behind it.
pub rule_spot : (F : List ℕ) (p : ℕ) (r : Rule) → RuleAt F p r → Spot F r.first r.rest p
unfolding rule_text
rule_spot F p r h =
    record { behind = h.behind; bytes = h.bytes ∙ append_assoc (text_of r.first) (children_text r.rest) h.behind }

-- The first word of the rule with number i stands at its place.
pub row_spot : {F I : List ℕ} {M : Table} (o : Opened F I M) (i : ℕ) (r : Row) → RowAt M i r → RuleAt F (place_of M i) r.rule
row_spot {F} {I} {M} o i r e = row_rule F (length (head_frames M) + length (row_frames (take i M.rows))) r _ (row_there o i r e)
