use Rattle.std.proofs.Common.{map}
use Rattle.blif_read.specs.Models.{named}
use Rattle.blif_flat.specs.Code.Numbering.{number_in}
use Rattle.blif_flat.proofs.Ported.{told_step}
use Rattle.blif_flat.proofs.faults.uses.defs_told.Goals as goal

pub loop-def-preserved : goal.loop-def-preserved
loop-def-preserved c = told_step (λ d. map (named d.line) d.inputs)
    (number_in c.args.drivers.now.lines.entries) c.loop-def.best c.def_told-best.result _ c.args.defs.now
    c.loop-def.def-index c.def-item.result
    c.loop-def-test.true c.def-item.is c.def_told-best.ensures c.loop-def.invariant
