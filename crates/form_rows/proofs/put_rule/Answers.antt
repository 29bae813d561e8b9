-- `put_rule` meets its contract: the rule's bytes and its symbol are read by its number.
use mathlib.Core.Path.{◌∙◌}
use native.Mathlib.Omega.{arith}
use Rattle.digits.proofs.Room.{wrote_as}
use Rattle.form_rows.specs.Rows.{named}
use Rattle.form_rows.proofs.Renaming.{line_renumbered}
use Rattle.form_rows.proofs.put_rule.Goals as goal

pub returns-clause-rule_written : goal.returns-clause-rule_written
returns-clause-rule_written c =
    λ M r o e.
    let f = c.narrow-f.ensures (omega (arith, c.symbol_of.ensures.upper_bound)) ∙ c.symbol_of.ensures.row_meant c.args.table.now.frames.now M r o e in
    wrote_as (line_renumbered (named c.args.names.now) c.args.n c.narrow-f.result r f)
    (c.put_row.ensures.row_written r.rule (c.rule_text.ensures.result_value M r o e))
