-- `put_hex` meets its contract: at each turn the digits of the bytes that are done are put.
use native.Mathlib.Omega.{arith}
use borrow.Author.Rules.{rules}
use Rattle.text.specs.Lines.{hex_of}
use Rattle.output.proofs.Queues.{put_none}
use Rattle.output.proofs.Hexes.{hexes_more, hexes_failed}
use Rattle.output.proofs.buffer.Out.put_hex.Goals as goal

pub loop-done-init : goal.loop-done-init
unfolding hex_of
loop-done-init c =
    (search rules, put_none)

pub returns-then-n-eq0 : goal.returns-then-n-eq0
returns-then-n-eq0 c =
    hexes_failed c.args.bytes.now c.loop-done.done _ (search rules) c.loop-done.invariant.1 c.put_some_hex-n.ensures (search rules)

pub loop-done-preserved : goal.loop-done-preserved
loop-done-preserved c =
    hexes_more c.args.bytes.now c.loop-done.done _ (search rules) c.loop-done.invariant.1 c.put_some_hex-n.ensures (omega arith)
