use Rattle.cell_netlist.proofs.Valued.{is_maj, three_none}
use Rattle.cell_netlist.proofs.covers.three_gate.Goals as goal

pub returns-then-agrees : goal.returns-then-agrees
returns-then-agrees c =
    is_maj c.args.def.now c.args.x c.args.y c.args.z c.requires c.if-x-y.false c.if-x-z.false c.if-y-z.false
    (c.is_majority-agrees.ensures.yes c.if-agrees.true)

pub returns-else-agrees : goal.returns-else-agrees
returns-else-agrees c =
    three_none c.args.def.now c.args.x c.args.y c.args.z c.requires
    (λ xy xz yz is. c.is_majority-agrees.ensures.no c.if-agrees.false is)
