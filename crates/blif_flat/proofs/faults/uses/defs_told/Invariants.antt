use Rattle.std.proofs.Common.{◌≡◌, map, drop}
use Rattle.std.specs.List.{flat_map}
use Rattle.blif_read.specs.Models.{named}
use Rattle.blif_flat.specs.Code.Numbering.{number_in}
use Rattle.blif_flat.specs.Code.Joining.{least_of, undefined_in}
use Rattle.blif_flat.proofs.faults.uses.defs_told.Given as goal

abbrev pub invariant-loop-def : goal.invariant-loop-def
invariant-loop-def l = least_of l.best
    (undefined_in (number_in l.drivers.lines.entries)
    (flat_map (λ d. map (named d.line) d.inputs) (drop l.def-index l.defs)))
    ≡ least_of l.fn.best (undefined_in (number_in l.drivers.lines.entries)
    (flat_map (λ d. map (named d.line) d.inputs) l.defs))
