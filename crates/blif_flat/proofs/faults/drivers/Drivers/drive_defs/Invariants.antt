use Rattle.std.proofs.Common.{◌≡◌, drop, map}
use Rattle.blif_read.specs.Models.{named}
use Rattle.blif_flat.specs.Code.Joining.{drive_all, driving}
use Rattle.blif_flat.proofs.faults.drivers.Drivers.drive_defs.Given as goal

abbrev pub invariant-loop-def : goal.invariant-loop-def
invariant-loop-def l = drive_all (driving l.self)
    (map (λ d. named d.line d.output) (drop l.def-index l.defs)) ≡ drive_all (driving l.fn.self)
    (map (λ d. named d.line d.output) l.defs)
