use Rattle.std.proofs.Common.{◌≡◌, ◌<◌, ◌∙◌, List, ℕ, length, get_or, sym, ap, arith}
use Rattle.std.specs.Prelude.{zip, map, filter, max, slice_index}
use Rattle.std.proofs.lemmas.List.{take_all}
use Rattle.geom.specs.declared.shapes.Shape.{Shape}
use Rattle.text_report.specs.Wires.{greatest}
use Rattle.text_report.specs.Code.Sources.{is_some_row, row_left}
use Rattle.text_report.proofs.Keyed.{greatest_same, greatest_more, some_row}
use Rattle.text_report.proofs.Zipped.{zip_read, zip_long}
use Rattle.text_report.proofs.wire_tables.longest_wire.Goals as goal
use Rattle.text_report.proofs.wire_tables.longest_wire.Goals.{then-is_some, else-is_some}

pub loop-n-preserved : goal.loop-n-preserved
loop-n-preserved c =
    let read = sym (zip_read c.args.shapes.now c.args.nets.now c.loop-n.n c.index-shapes-n.result c.loop-n-test.true
    c.requires.long c.index-shapes-n.is) in
    let lt : c.loop-n.n < length (zip c.args.shapes.now c.args.nets.now) =
    omega (arith, zip_long c.args.shapes.now c.args.nets.now c.requires.long, c.loop-n-test.true) in
    let asked : is_some_row (row_left c.args.sources.now
    (c.index-shapes-n.result, get_or c.args.nets.now c.loop-n.n 0)) ≡ c.is_some.result =
    ap is_some_row (sym c.row_left.ensures) ∙ (sym (some_row c.row_left.result) ∙ sym c.is_some.ensures) in
    elim c.if-is_some.branch [
      | then-is_some w ↦
          w.longest-is ∙ (w.max-longest.ensures
          ∙ (ap (λ (m : ℕ). max m (get_or c.args.lengths.now (get_or c.args.nets.now c.loop-n.n 0) 0))
          c.loop-n.invariant
          ∙ sym (greatest_more (λ wire. is_some_row (row_left c.args.sources.now wire))
          (zip c.args.shapes.now c.args.nets.now) c.loop-n.n
          (c.index-shapes-n.result, get_or c.args.nets.now c.loop-n.n 0) (c.index-shapes-n.result, 0) lt read
          (λ wire. slice_index c.args.lengths.now wire.1) (asked ∙ w.if-is_some.true))))
      | else-is_some w ↦
          w.longest-is ∙ (c.loop-n.invariant
          ∙ sym (greatest_same (λ wire. is_some_row (row_left c.args.sources.now wire))
          (zip c.args.shapes.now c.args.nets.now) c.loop-n.n
          (c.index-shapes-n.result, get_or c.args.nets.now c.loop-n.n 0) (c.index-shapes-n.result, 0) lt read
          (λ wire. slice_index c.args.lengths.now wire.1) (asked ∙ w.if-is_some.false)))
    ]

pub returns : goal.returns
returns c =
    c.loop-n.invariant
    ∙ ap (λ (l : List (Shape × ℕ)). greatest (map (λ wire. slice_index c.args.lengths.now wire.1)
    (filter (λ wire. is_some_row (row_left c.args.sources.now wire)) l)))
    (take_all c.loop-n.n (zip c.args.shapes.now c.args.nets.now)
    (omega (arith, zip_long c.args.shapes.now c.args.nets.now c.requires.long, c.loop-n-test.false)))
