use Rattle.std.proofs.Common.{◌≡◌, List, Some, sym, subst}
use Rattle.blif_read.specs.Made.{IfCycle}
use Rattle.blif_read.specs.Walk.{first_cycle}
use Rattle.blif_read.specs.declared.netlist.Def.{Def}
use Rattle.blif_flat.proofs.Finishing.{few_named}
use Rattle.blif_flat.proofs.expansion.finish.finish.Goals as goal

pub kept_names-requires : goal.kept_names-requires
kept_names-requires c = few_named c.args.inputs c.args.places.now c.args.defs.now c.args.outputs.now c.requires

pub refused-requires : goal.refused-requires
refused-requires c =
    subst (λ (defs : List Def). IfCycle c.in-Err.refusal (λ signals. first_cycle c.args.inputs defs ≡ Some signals))
    (sym c.as_slice.ensures) c.in-Err.ensures.cycle
