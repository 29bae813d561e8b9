-- `put_states` meets its contract: the lines of the states passed.
use mathlib.Core.Path.{◌≡◌, refl, ap, ◌∙◌}
use mathlib.Core.List.{map}
use Prim.Native.Nat.{ℕ}
use native.Mathlib.Omega.{arith}
use Rattle.machine.specs.Form.{rows_of, renumber, renumbered}
use Rattle.text.specs.Writing.{row_lines}
use Rattle.digits.proofs.Room.{wrote_none, wrote_then, wrote_as}
use Rattle.form_length.proofs.States.{states_more}
use Rattle.form_rows.specs.Rows.{named}
use Rattle.form_rows.proofs.put_states.Goals as goal

pub loop-i-init : goal.loop-i-init
unfolding renumbered row_lines
loop-i-init c =
    record { same_room = refl; place = omega arith; written = λ M o l. wrote_none c.args.pen.now.room.now c.args.pen.now.at }

pub loop-i-preserved : goal.loop-i-preserved
loop-i-preserved c =
    record {
      same_room = c.put_rules.ensures.same_room ∙ c.loop-i.invariant.same_room;
      place = omega (arith, c.put_rules.ensures.upper_bound, c.loop-i.invariant.place);
      written = λ M o l.
          let n : c.narrow.result ≡ c.loop-i.i = c.narrow.ensures (omega (arith, c.loop-i-test.true, c.requires.0)) in
          wrote_as (states_more (named c.args.names.now) M.rows c.args.order.now c.loop-i.i c.from-q.result (omega arith)
          (c.from-q.ensures ∙ c.byte.ensures))
          (wrote_then (c.loop-i.invariant.written M o (omega arith))
          (wrote_as (ap (λ (k : ℕ). row_lines (map (renumber (named c.args.names.now) k) (rows_of M.rows c.from-q.result))) n)
          (c.put_rules.ensures.rules_written M o)));
    }
