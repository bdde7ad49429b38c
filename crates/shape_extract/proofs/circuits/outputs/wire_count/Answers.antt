use Rattle.std.proofs.Common.{◌∙◌, sym}
use Rattle.shape_extract.proofs.MarkTable.{wired_yes, wired_no}
use Rattle.shape_extract.proofs.Each.{item_there}
use Rattle.shape_extract.proofs.circuits.outputs.wire_count.Goals as goal
use Rattle.shape_extract.proofs.circuits.outputs.wire_count.Goals.{then-is_wire, else-is_wire}

pub loop-p-preserved : goal.loop-p-preserved
loop-p-preserved c =
    let got = item_there c.as_slice-shape-items.ensures c.loop-p-test.true c.shape-item.is in
    elim c.if-is_wire.branch [
      | then-is_wire w ↦ rw w.wires-is
          (wired_yes c.args.flat.now c.args.marking.now c.requires.marking c.loop-p.p c.shape-item.result got
          c.loop-p.wires c.loop-p.invariant (sym w.if-is_wire.true ∙ c.is_wire.ensures))
      | else-is_wire w ↦ rw w.wires-is
          (wired_no c.args.flat.now c.args.marking.now c.requires.marking c.loop-p.p c.shape-item.result got
          c.loop-p.wires c.loop-p.invariant (sym w.if-is_wire.false ∙ c.is_wire.ensures))
    ]
