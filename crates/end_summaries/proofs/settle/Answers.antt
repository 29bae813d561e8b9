-- `settle` meets its contract.
use native.Mathlib.Omega.{arith}
use Rattle.layout.specs.Layout.{Opened}
use Rattle.layout.proofs.Means.{read_by}
use Rattle.summary.specs.Codes.{side_of}
use Rattle.summary.proofs.Growing.{grown_less}
use Rattle.end_summaries.proofs.Settled.{tried_witnessed, tried_told, tried_covering}
use Rattle.end_summaries.proofs.settle.Goals as goal

pub loop-table-smaller : goal.loop-table-smaller
loop-table-smaller c =
    grown_less c.add_states-k.ensures.grown (omega arith) (λ z. omega (arith, z, c.if-k-eq0.false))

pub loop-table-preserved : goal.loop-table-preserved
loop-table-preserved c =
    let side = side_of c.args.side in
    λ M o. (
      λ W. tried_witnessed M side (c.add_states-k.ensures.adds M o) ((c.loop-table.invariant M o).0 W),
      λ T. tried_told M side (c.add_states-k.ensures.adds M o) ((c.loop-table.invariant M o).1 T),
    )

pub returns : goal.returns
returns c =
    let side = side_of c.args.side in
    record {
      shown = λ M o W.
          let as_read : Opened c.args.table.now.frames.now c.in-Ok.numbers.now M = read_by c.in-Ok.ensures.1.same o in
          tried_witnessed M side (c.add_states-k.ensures.adds M as_read) ((c.loop-table.invariant M as_read).0 W);
      fits = λ M o listed R.
          let as_read : Opened c.args.table.now.frames.now c.in-Ok.numbers.now M = read_by c.in-Ok.ensures.1.same o in
          tried_covering M side as_read c.args.order.now c.args.n listed (omega arith)
          (c.add_states-k.ensures.adds M as_read) c.if-k-eq0.true
          ((c.loop-table.invariant M as_read).0 R.0, (c.loop-table.invariant M as_read).1 R.1);
    }
