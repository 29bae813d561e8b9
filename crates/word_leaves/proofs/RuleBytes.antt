-- A rule's bytes: how many they are, that they stand whole in the lent bytes, and how many the rules of a range have.
use Rattle.std.proofs.Common.{◌≡◌, ℕ, zero, suc, ◌+◌, ◌-◌, ◌*◌, ◌<◌, ◌≤◌, List, [], ◌∷◌, length, take, drop, ap, ◌∙◌, arith, length-append, length-drop}
use mathlib.Core.Option.{some, some-injective, none-ne-some}
use lib.ListN.{get_elem?}
use lib.Seq.{slice, take-append_seam}
use Rattle.machine.specs.Machine.{Child, Rule, Row}
use Rattle.text.specs.Writing.{children_text, row_frame}
use Rattle.layout.specs.Layout.{rule_text, rest_letters, rule_letters, row_frames}
use Rattle.layout.specs.Leaves.{RuleAt, Spot}
use Rattle.layout.proofs.Rows.{row_frame_lem}
use Rattle.word_leaves.proofs.Spots.{spot_rule}

-- A child's bytes are its state, a length byte and its letters.
length_children : (cs : List Child) → length (children_text cs) ≡ 2 * length cs + rest_letters cs
unfolding children_text rest_letters
length_children [] = omega arith
length_children (c ∷ cs) = simp length-append (omega (arith, length_children cs))

-- A rule's bytes are the first word's length byte, two for each child, and its letters.
pub length_rule : (r : Rule) → length (rule_text r) ≡ 1 + 2 * length r.rest + rule_letters r
unfolding rule_text rule_letters
length_rule r = simp length-append (omega (arith, length_children r.rest))

module _ (F : List ℕ) (p n : ℕ) (r : Rule) (s : Spot F r.first r.rest p) (e : n ≡ length (rule_text r)) where
  there : RuleAt F p r
  there = spot_rule F p r s

  -- A rule's bytes end inside the lent bytes.
  pub text_ends : p + n ≤ length F
  text_ends =
      omega (arith, e, length_rule r, simp length-drop at (ap length there.bytes), length-append (rule_text r) there.behind)

  -- So many bytes from where they begin are the rule's.
  pub text_whole : take (p + n - p) (drop p F) ≡ rule_text r
  text_whole =
      let k : p + n - p ≡ length (rule_text r) = omega (arith, e) in
      ap (λ (m : ℕ). take m (drop p F)) k ∙ ap (λ (t : List ℕ). take (length (rule_text r)) t) there.bytes ∙ take-append_seam (rule_text r) there.behind

-- The frames before number `to` are those before number `from`, and those of the range.
frames_split : (rows : List Row) (from to : ℕ) → from ≤ to
    → length (row_frames (take to rows)) ≡ length (row_frames (take from rows)) + length (row_frames (slice from to rows))
unfolding row_frames
frames_split rows zero to h = omega arith
frames_split rows (suc from) zero h = absurd (omega arith)
frames_split [] (suc from) (suc to) h = omega arith
frames_split (x ∷ rows) (suc from) (suc to) h =
    omega (
      arith,
      frames_split rows from to (omega arith),
      length-append (row_frame x) (row_frames (take to rows)),
      length-append (row_frame x)
          (row_frames (take from rows)),
    )

-- One frame more.
frames_more : (rows : List Row) (i : ℕ) (r : Row) → get_elem? rows i ≡ some r
    → length (row_frames (take (suc i) rows)) ≡ length (row_frames (take i rows)) + (3 + length (rule_text r.rule))
unfolding row_frames
frames_more [] i r e = absurd (none-ne-some r e)
frames_more (x ∷ rows) zero r e =
    omega (arith, length-append (row_frame x) [], ap length (row_frame_lem x), ap (λ (y : Row). length (rule_text y.rule)) (some-injective _ _ e))
frames_more (x ∷ rows) (suc i) r e =
    omega (arith, frames_more rows i r e, length-append (row_frame x) (row_frames (take (suc i) rows)), length-append (row_frame x) (row_frames (take i rows)))

-- From the place of the first rule of a range to the end of the last, and then three more.
pub frames_between : (rows : List Row) (head from to first last n : ℕ) (r : Row) → from < to → get_elem? rows (to - 1) ≡ some r
    → first ≡ head + length (row_frames (take from rows)) + 3
    → last ≡ head + length (row_frames (take (to - 1) rows)) + 3 → n ≡ length (rule_text r.rule)
    → last + n + 3 ≡ first + length (row_frames (slice from to rows))
frames_between rows head from to first last n r h e a b d =
    let k : suc (to - 1) ≡ to = omega arith in
    omega (arith, frames_split rows from to (omega arith), ap (λ (m : ℕ). length (row_frames (take m rows))) k, frames_more rows (to - 1) r e)
