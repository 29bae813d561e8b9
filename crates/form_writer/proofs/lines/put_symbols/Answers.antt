-- `put_symbols` meets its contract: a line for each symbol passed.
use mathlib.Core.Path.{◌≡◌, refl, ap, ◌∙◌}
use Prim.Native.Nat.{◌<◌, ◌≤◌}
use native.Mathlib.Omega.{arith}
use lib.ListN.{length, get_or}
use lib.Seq.{take_all}
use Rattle.text.specs.Writing.{symbol_lines}
use Rattle.digits.proofs.Room.{wrote_none, wrote_then, wrote_as}
use Rattle.form_writer.proofs.Text.{symbol_line, symbols_more}
use Rattle.form_writer.proofs.lines.put_symbols.Goals as goal

pub loop-k-init : goal.loop-k-init
unfolding symbol_lines
loop-k-init c =
    record { same_room = refl; place = omega arith; written = λ M o. wrote_none c.args.pen.now.room.now c.args.pen.now.at }

pub loop-k-preserved : goal.loop-k-preserved
loop-k-preserved c =
    record {
      same_room = c.put.ensures.same_room ∙ c.put_byte-in-loop-k.ensures.same_room ∙ c.put_byte.ensures.same_room ∙ c.loop-k.invariant.same_room;
      place = omega (arith, c.put.ensures.wrote.end, c.put_byte-in-loop-k.ensures.end, c.put_byte.ensures.end, c.loop-k.invariant.place);
      written = λ M o.
          let l : c.loop-k.k < length M.arities = omega (arith, c.symbols-k-end.ensures.meant_by c.args.table.now.frames.now M o, c.loop-k-test.true) in
          let e : c.narrow.result ≡ get_or M.arities c.loop-k.k 0 = c.narrow.ensures c.arity.ensures.upper_bound ∙ c.arity.ensures.by_index
          c.args.table.now.numbers.now M o l in
          wrote_as (symbols_more M.arities c.loop-k.k l)
          (wrote_then (c.loop-k.invariant.written M o)
          (wrote_as (symbol_line c.narrow.result (get_or M.arities c.loop-k.k 0) e)
          (wrote_then (wrote_then c.put_byte.ensures.wrote c.put_byte-in-loop-k.ensures.wrote) c.put.ensures.wrote)));
    }

pub returns-clause-symbols_written : goal.returns-clause-symbols_written
returns-clause-symbols_written c =
    λ M o.
    let l : length M.arities ≤ c.loop-k.k = omega (arith, c.symbols-k-end.ensures.meant_by c.args.table.now.frames.now M o, c.loop-k-test.false) in
    wrote_as (ap symbol_lines (take_all c.loop-k.k M.arities l)) (c.loop-k.invariant.written M o)
