use Rattle.std.proofs.Common.{refl}
use Rattle.cell_netlist.proofs.Shown.{node_low, unshown_apart}
use Rattle.cell_netlist.proofs.Ended.{within_of}
use Rattle.cell_netlist.proofs.cells.on_one_level.Goals as goal

pub align-aligned-requires-clause-nodes : goal.align-aligned-requires-clause-nodes
align-aligned-requires-clause-nodes c k lt = node_low _ _ _ c.requires k lt

pub returns-then-not-aligned-clause-fault : goal.returns-then-not-aligned-clause-fault
returns-then-not-aligned-clause-fault c =
    (refl, unshown_apart _ _ _ c.requires (c.align-aligned.ensures.refused c.if-not-aligned.true))

pub told-requires-clause-within : goal.told-requires-clause-within
told-requires-clause-within c =
    within_of _ _ _ _ _ _ _ c.requires (c.align-aligned.ensures.aligned c.if-not-aligned.false)
    c.in_ok-least.ensures c.deref.ensures.value
