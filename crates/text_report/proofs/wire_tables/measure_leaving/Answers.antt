use Rattle.std.proofs.Common.{◌≡◌, ◌<◌, length, get_or, None, Some, sym, arith}
use Rattle.std.specs.Prelude.{zip, slice_index}
use Rattle.text_report.specs.Code.Sources.{row_left}
use Rattle.text_report.proofs.Keyed.{most_same, most_more, most_all}
use Rattle.text_report.proofs.Wired.{left_from}
use Rattle.text_report.proofs.Zipped.{zip_read, zip_long}
use Rattle.text_report.proofs.wire_tables.measure_leaving.Goals as goal
use Rattle.text_report.proofs.wire_tables.measure_leaving.Goals.{in-Some, in_default}

pub loop-n-preserved : goal.loop-n-preserved
loop-n-preserved c =
    let read = sym (zip_read c.args.shapes.now c.args.nets.now c.loop-n.n c.index-shapes-n.result c.loop-n-test.true
    c.requires.long c.index-shapes-n.is) in
    let lt : c.loop-n.n < length (zip c.args.shapes.now c.args.nets.now) =
    omega (arith, zip_long c.args.shapes.now c.args.nets.now c.requires.long, c.loop-n-test.true) in
    elim c.match-row_left.branch [
      | in-Some w ↦
          let found : row_left c.args.sources.now (c.index-shapes-n.result, get_or c.args.nets.now c.loop-n.n 0)
          ≡ Some w.in-Some.row = sym w.in-Some.ensures in
          let within : w.in-Some.row < length c.loop-n.longest =
          omega (
            arith,
            c.loop-n.auto.longest,
            c.requires.rows (get_or c.args.nets.now c.loop-n.n 0) w.in-Some.row
                (left_from c.args.sources.now (c.index-shapes-n.result, get_or c.args.nets.now c.loop-n.n 0)
                w.in-Some.row found),
          ) in
          rw w.longest-is
          (most_more (row_left c.args.sources.now) (zip c.args.shapes.now c.args.nets.now) c.loop-n.n
          (c.index-shapes-n.result, get_or c.args.nets.now c.loop-n.n 0) (c.index-shapes-n.result, 0) lt read
          (λ wire. slice_index c.args.lengths.now wire.1) c.loop-n.longest w.in-Some.row w.max.result found within
          w.max.ensures c.loop-n.invariant)
      | in_default w ↦
          let none : row_left c.args.sources.now (c.index-shapes-n.result, get_or c.args.nets.now c.loop-n.n 0)
          ≡ None = sym w.in_default.ensures in
          rw w.longest-is
          (most_same (row_left c.args.sources.now) (zip c.args.shapes.now c.args.nets.now) c.loop-n.n
          (c.index-shapes-n.result, get_or c.args.nets.now c.loop-n.n 0) (c.index-shapes-n.result, 0) lt read
          (λ wire. slice_index c.args.lengths.now wire.1) c.loop-n.longest none c.loop-n.invariant)
    ]

pub returns : goal.returns
returns c =
    most_all c.loop-n.n (row_left c.args.sources.now) (λ wire. slice_index c.args.lengths.now wire.1)
    (zip c.args.shapes.now c.args.nets.now) c.loop-n.longest
    (omega (arith, zip_long c.args.shapes.now c.args.nets.now c.requires.long, c.loop-n-test.false))
    c.loop-n.invariant
