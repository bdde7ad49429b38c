use Rattle.std.proofs.Common.{◌≡◌, map, drop}
use Rattle.blif_read.specs.Models.{named}
use Rattle.blif_flat.specs.Code.Numbering.{number_in}
use Rattle.blif_flat.specs.Code.Joining.{least_of, undefined_in}
use Rattle.blif_flat.proofs.faults.uses.def_told.Given as goal

abbrev pub invariant-loop-input : goal.invariant-loop-input
invariant-loop-input l = least_of l.best
    (undefined_in (number_in l.drivers.lines.entries) (map (named l.def.line) (drop l.input-index l.input-items)))
    ≡ least_of l.fn.best (undefined_in (number_in l.drivers.lines.entries) (map (named l.def.line) l.input-items))
