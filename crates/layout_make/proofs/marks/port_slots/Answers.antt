use Rattle.std.proofs.Common.{arith, ap, length, sym, ◌∙◌}
use Rattle.layout_make.specs.Spots.{spots_of}
use Rattle.layout_make.specs.Code.Labelling.{port_slot}
use Rattle.layout_make.proofs.RowCode.{spots_long}
use Rattle.layout_make.proofs.PortSlots.{many, port_start, port_set, port_past, port_none}
use Rattle.layout_make.proofs.marks.port_slots.Goals as goal

pub loop-number-init : goal.loop-number-init
loop-number-init c =
    let xs = spots_of c.args.row.now.cells.now c.args.row.now.slots.now in (
      omega arith,
      port_start c.args.ports xs _ c.args.count _
          (omega (arith, spots_long c.args.row.now.cells.now c.args.row.now.slots.now c.requires))
          (c.in_ok-slots.ensures.items_if_clones_equal (λ y e. e)),
    )

pub index_mut-requires : goal.index_mut-requires
index_mut-requires c =
    omega (
      arith,
      ap length c.loop-number.invariant.1 ∙ many (port_slot c.args.ports _) 0 c.args.count,
      c.if-port-count.true,
    )

pub loop-number-preserved-then-port-count : goal.loop-number-preserved-then-port-count
loop-number-preserved-then-port-count c = (
  omega (arith, c.loop-number.invariant.0),
  port_set c.args.ports
      (spots_of c.args.row.now.cells.now c.args.row.now.slots.now) c.loop-number.number c.args.count c.in-Some.port
      c.spot-spot.result c.loop-number.slots.items
      c.loop-number-test.true c.spot-spot.ensures (sym c.port_of.ensures ∙ c.in-Some.is) c.if-port-count.true
      c.loop-number.invariant.1,
)

pub loop-number-preserved-else-port-count : goal.loop-number-preserved-else-port-count
loop-number-preserved-else-port-count c = (
  omega (arith, c.loop-number.invariant.0),
  port_past c.args.ports
      (spots_of c.args.row.now.cells.now c.args.row.now.slots.now) c.loop-number.number c.args.count c.in-Some.port
      c.spot-spot.result c.loop-number.slots.items
      c.loop-number-test.true c.spot-spot.ensures (sym c.port_of.ensures ∙ c.in-Some.is)
      (omega (arith, c.if-port-count.false)) c.loop-number.invariant.1,
)

pub loop-number-preserved : goal.loop-number-preserved
loop-number-preserved c = (
  omega (arith, c.loop-number.invariant.0),
  port_none c.args.ports
      (spots_of c.args.row.now.cells.now c.args.row.now.slots.now) c.loop-number.number c.args.count
      c.spot-spot.result c.loop-number.slots.items
      c.loop-number-test.true c.spot-spot.ensures (sym c.port_of.ensures ∙ c.in_default.is) c.loop-number.invariant.1,
)
