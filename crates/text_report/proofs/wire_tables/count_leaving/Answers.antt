use Rattle.std.proofs.Common.{◌≡◌, ◌<◌, length, get_or, None, Some, refl, sym, arith}
use Rattle.std.specs.Prelude.{zip}
use Rattle.text_report.specs.Code.Sources.{row_left}
use Rattle.text_report.proofs.Keyed.{counts_same, counts_more, counts_all}
use Rattle.text_report.proofs.Wired.{left_from}
use Rattle.text_report.proofs.Zipped.{zip_read, zip_long}
use Rattle.text_report.proofs.wire_tables.count_leaving.Goals as goal
use Rattle.text_report.proofs.wire_tables.count_leaving.Goals.{in-Some, in_default}

pub loop-n-preserved : goal.loop-n-preserved
loop-n-preserved c =
    let read = sym (zip_read c.args.shapes.now c.args.nets.now c.loop-n.n c.index-shapes-n.result c.loop-n-test.true
    c.requires.long c.index-shapes-n.is) in
    let lt : c.loop-n.n < length (zip c.args.shapes.now c.args.nets.now) =
    omega (arith, zip_long c.args.shapes.now c.args.nets.now c.requires.long, c.loop-n-test.true) in
    elim c.match-row_left.branch [
      | in-Some w ↦
          let found : row_left c.args.sources.now (c.index-shapes-n.result, get_or c.args.nets.now c.loop-n.n 0)
          ≡ Some w.in-Some.row = sym w.in-Some.ensures in
          let within : w.in-Some.row < length c.loop-n.counts =
          omega (
            arith,
            c.loop-n.auto.counts,
            c.requires.rows (get_or c.args.nets.now c.loop-n.n 0) w.in-Some.row
                (left_from c.args.sources.now (c.index-shapes-n.result, get_or c.args.nets.now c.loop-n.n 0)
                w.in-Some.row found),
          ) in
          rw w.counts-is
          (counts_more (row_left c.args.sources.now) (zip c.args.shapes.now c.args.nets.now) c.loop-n.n
          (c.index-shapes-n.result, get_or c.args.nets.now c.loop-n.n 0) (c.index-shapes-n.result, 0) lt read
          c.loop-n.counts w.in-Some.row _ found within refl c.loop-n.invariant)
      | in_default w ↦
          let none : row_left c.args.sources.now (c.index-shapes-n.result, get_or c.args.nets.now c.loop-n.n 0)
          ≡ None = sym w.in_default.ensures in
          rw w.counts-is
          (counts_same (row_left c.args.sources.now) (zip c.args.shapes.now c.args.nets.now) c.loop-n.n
          (c.index-shapes-n.result, get_or c.args.nets.now c.loop-n.n 0) (c.index-shapes-n.result, 0) lt read
          c.loop-n.counts none c.loop-n.invariant)
    ]

pub returns : goal.returns
returns c =
    counts_all c.loop-n.n (row_left c.args.sources.now) (zip c.args.shapes.now c.args.nets.now) c.loop-n.counts
    (omega (arith, zip_long c.args.shapes.now c.args.nets.now c.requires.long, c.loop-n-test.false))
    c.loop-n.invariant
