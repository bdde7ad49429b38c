use Rattle.std.proofs.Common.{◌≡◌, ◌<◌, length, arith, Some}
use Rattle.std.specs.Prelude.{slice_get}
use Rattle.shape_extract.proofs.NetDrivers.{net_below}
use Rattle.geom.proofs.Filing.{read_at}
use Rattle.text_report.proofs.SourceRows.{rows_same, rows_more, rows_all}
use Rattle.text_report.proofs.sources.write_rows.Goals as goal
use Rattle.text_report.proofs.sources.write_rows.Goals.{then-shape-eq-OUTPUT_PIN, else-shape-eq-OUTPUT_PIN}

pub bounds-rows-nets : goal.bounds-rows-nets
bounds-rows-nets c =
    let within : c.loop-n.n < length c.args.flat.now.shapes = rw c.as_slice-shapes.ensures at c.loop-n-test.true in
    omega (arith, net_below _ _ c.requires.order.are_nets _ within, c.loop-n.invariant.long)

pub loop-n-preserved : goal.loop-n-preserved
loop-n-preserved c =
    let got : slice_get c.args.flat.now.shapes c.loop-n.n ≡ Some c.index-shapes-n.result =
    rw c.as_slice-shapes.ensures at (read_at c.as_slice-shapes.result.now _ _ c.loop-n-test.true c.index-shapes-n.is) in
    elim c.if-shape-eq-OUTPUT_PIN.branch [
      | then-shape-eq-OUTPUT_PIN w ↦ rw w.rows-is
          (rows_more c.args.flat.now c.args.nets.now c.requires.order c.loop-n.n c.loop-n.rows c.index-shapes-n.result
          c.loop-n.invariant got c.args.edges.now c.requires.rows (rw c.as_slice-shapes.ensures at c.known.ensures)
          w.if-shape-eq-OUTPUT_PIN.true w.row_of.result w.row_of.ensures)
      | else-shape-eq-OUTPUT_PIN w ↦ rw w.rows-is
          (rows_same c.args.flat.now c.args.nets.now c.requires.order c.loop-n.n c.loop-n.rows c.index-shapes-n.result
          c.loop-n.invariant got w.if-shape-eq-OUTPUT_PIN.false)
    ]

pub returns : goal.returns
returns c =
    rows_all c.loop-n.n c.args.flat.now.shapes c.args.nets.now c.loop-n.rows
    (rw c.as_slice-shapes.ensures at c.loop-n-test.false) c.loop-n.invariant
