use Rattle.std.proofs.Common.{arith, refl}
use Rattle.cell_netlist.proofs.Ended.{told_net, told_fault}
use Rattle.cell_netlist.proofs.cells.told.Goals as goal

pub returns-then-high-le1-clause-fault : goal.returns-then-high-le1-clause-fault
returns-then-high-le1-clause-fault c = (refl, told_fault _ _ _ c.requires.found c.if-high-le1.true)

pub returns-clause-net : goal.returns-clause-net
returns-clause-net c =
    rw c.from_vec.ensures
    (told_net _ _ _ _ c.requires.found c.in_ok-levels.ensures
    (λ le. let high = c.if-high-le1.false in absurd (omega (arith, le, high))))
