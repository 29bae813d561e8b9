-- The stage behind a rule.
use mathlib.Core.Path.{◌≡◌, refl, sym, ap, ◌∙◌}
use mathlib.Core.List.{[], ◌∷◌, ◌++◌, append_assoc}
use Prim.Native.Nat.{ℕ, ◌<◌, ◌≤◌}
use native.Mathlib.Omega.{arith}
use lib.ListN.{length, length-append}
use Rattle.machine.specs.Machine.{Row, Table}
use Rattle.text.specs.Frames as text
use Rattle.text.specs.Writing.{row_frame, initial_frame}
use Rattle.layout.specs.Layout.{row_frames, head_frames}
use Rattle.layout.proofs.Growing.{rows_more}
use Rattle.head_frames.specs.Staged.{head_of, key, Numbers}
use Rattle.rule_frames.specs.Kept.{more_rules, behind_rule}
use Rattle.head_frames.specs.declared.Stage.{Stage}
use Rattle.rule_frames.proofs.RuleKeys.{last_snoc, before_snoc}

-- The frames before the first rule stay.
pub head_frames_lem : (M : Table) (r : Row) → head_frames (text.with_row M r) ≡ head_frames M
unfolding head_frames initial_frame
head_frames_lem M r = refl

-- The head of a table with one rule more.
head_more : (M : Table) (r : Row) → more_rules (head_of M) ≡ head_of (text.with_row M r)
unfolding head_frames initial_frame
head_more M r =
    let h = head_of M in
    ap
    (λ (n : ℕ). record { symbols = h.symbols; states = h.states; start = h.start; before = h.before; after = h.after; rows = h.rows; rules = n })
    (sym (length-append M.rows (r ∷ [])))

-- The numbers behind a rule that rises.
pub numbers_more : (st : Stage) (M : Table) (r : Row) (end : ℕ) → Numbers st M → length M.rows < 512 → r.symbol < 64 → st.last ≤ key r
    → Numbers (behind_rule st (key r) end) (text.with_row M r)
numbers_more st M r end n room hf later = record {
  head = ap more_rules n.head ∙ head_more M r;
  symbols = n.symbols;
  small = n.small;
  states = n.states;
  rules = omega (arith, length-append M.rows (r ∷ []));
  behind = before_snoc M.rows r st.last n.behind later hf;
  last = sym (last_snoc M.rows r);
}

-- The frames behind a rule, whose frame stands there.
pub rows_frames : (M : Table) (r : Row) → head_frames (text.with_row M r) ++ row_frames (M.rows ++ r ∷ []) ≡ head_frames M ++ row_frames M.rows ++ row_frame r
rows_frames M r =
    ap (λ l. l ++ row_frames (M.rows ++ r ∷ [])) (head_frames_lem M r)
    ∙ ap (λ l. head_frames M ++ l) (rows_more M.rows r)
    ∙ sym (append_assoc (head_frames M) (row_frames M.rows) (row_frame r))
