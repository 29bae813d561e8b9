-- `put_rules` meets its contract: the lines of the rules passed.
use mathlib.Core.Path.{refl, ◌∙◌}
use native.Mathlib.Omega.{arith}
use Rattle.machine.proofs.Find.{index_row}
use Rattle.digits.proofs.Room.{wrote_none, wrote_then, wrote_as}
use Rattle.form_rows.proofs.Ranges.{range_none, range_more, range_all}
use Rattle.form_rows.specs.Rows.{named}
use Rattle.form_rows.proofs.put_rules.Goals as goal

pub loop-i-init : goal.loop-i-init
loop-i-init c =
    record {
      same_room = refl;
      few = c.rules_of-own.ensures.to_le_rows_most.1;
      place = omega arith;
      written = λ M o. wrote_as (range_none (named c.args.names.now) c.args.n M.rows c.rules_of-own.result.from)
          (wrote_none c.args.pen.now.room.now c.args.pen.now.at);
    }

pub loop-i-preserved : goal.loop-i-preserved
loop-i-preserved c =
    record {
      same_room = c.put_rule.ensures.same_room ∙ c.loop-i.invariant.same_room;
      few = omega (arith, c.rules_of-own.ensures.to_le_rows_most.0);
      place = omega (arith, c.put_rule.ensures.upper_bound, c.loop-i.invariant.place);
      written = λ M o.
          let own = c.rules_of-own.ensures.meant_by c.args.table.now.frames.now M o in
          let row = index_row M.rows c.loop-i.i (omega (arith, own.few)) in
          wrote_as (range_more (named c.args.names.now) c.args.n M.rows c.rules_of-own.result.from c.loop-i.i row.0 c.loop-i.auto.i row.1)
          (wrote_then (c.loop-i.invariant.written M o) (c.put_rule.ensures.rule_written M row.0 o row.1));
    }

pub returns-clause-rules_written : goal.returns-clause-rules_written
returns-clause-rules_written c =
    λ M o.
    let own = c.rules_of-own.ensures.meant_by c.args.table.now.frames.now M o in
    wrote_as (range_all (named c.args.names.now) c.args.n c.loop-i.i own (c.loop-i.auto.i-end own.ordered) (omega arith)) (c.loop-i.invariant.written M o)
