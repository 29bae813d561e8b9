-- `lines_length` meets its contract: two digits for each byte from the first rule's frame to the end of the last, and a line feed for each.
use Rattle.std.proofs.Common.{◌≡◌, ℕ, ◌-◌, List, length, sym, ap, ◌∙◌, arith}
use lib.Seq.{slice, slice_empty, length-slice}
use Rattle.machine.specs.Machine.{Row}
use Rattle.machine.proofs.Find.{index_row}
use Rattle.text.specs.Writing.{row_lines}
use Rattle.layout.specs.Layout.{head_frames}
use Rattle.layout.proofs.Fit.{length_row_lines}
use Rattle.word_leaves.proofs.RuleBytes.{frames_between}
use Rattle.word_leaves.proofs.texts.lines_length.Goals as goal

pub returns-then-to-from-clause-meant_by : goal.returns-then-to-from-clause-meant_by
unfolding row_lines
returns-then-to-from-clause-meant_by c =
    λ F M o h l.
    let e : c.args.from ≡ c.args.to = omega arith in
    sym (ap (λ (k : ℕ). length (row_lines (slice k c.args.to M.rows))) e ∙ ap (λ (rows : List Row). length (row_lines rows))
    (slice_empty c.args.to M.rows))

pub returns-clause-meant_by : goal.returns-clause-meant_by
returns-clause-meant_by c =
    λ F M o h l.
    let first = index_row M.rows c.args.from (omega arith) in
    let last = index_row M.rows (c.args.to - 1) (omega arith) in
    omega (
      arith,
      c.saturating_sub.ensures,
      length_row_lines (slice c.args.from c.args.to M.rows),
      length-slice c.args.from c.args.to M.rows l,
      frames_between M.rows (length (head_frames M)) c.args.from c.args.to c.spot_of-first.result c.spot_of.result c.text_length.result last.0 (omega arith)
          last.1
          (c.spot_of-first.ensures.place F M first.0 o first.1) (c.spot_of.ensures.place F M last.0 o last.1)
          (c.text_length.ensures.row_meant F M last.0 o last.1),
    )
