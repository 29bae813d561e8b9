-- `put_row` meets its contract: the pieces of the line in turn, and then the numbers.
use Rattle.layout.specs.Layout.{rule_text}
use Rattle.form_laws.specs.Listed.{numbered_rule}
use Rattle.digits.proofs.Room.{wrote_then, wrote_as, wrote_next}
use Rattle.form_rows.specs.Rows.{named}
use Rattle.form_rows.proofs.Renaming.{wrote_renamed, row_line}
use Rattle.form_rows.proofs.put_row.Goals as goal

pub returns-clause-row_written : goal.returns-clause-row_written
returns-clause-row_written c =
    λ r e.
    wrote_as (row_line c.args.n c.args.f (rule_text (numbered_rule (named c.args.names.now) r)))
    (wrote_then (wrote_then (wrote_then (wrote_then c.put_byte.ensures.wrote c.put_byte-2.ensures.wrote) c.put_byte-3.ensures.wrote)
    (wrote_next c.put_numbers.ensures.stays (wrote_renamed c.args.names.now r e c.put_hex.ensures.wrote c.put_numbers.ensures.renamed)))
    c.put.ensures.wrote)
