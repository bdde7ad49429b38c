use Rattle.std.proofs.Common.{◌≡◌, take}
use Rattle.blif_flat.specs.Expansion.{kept_names}
use Rattle.blif_flat.specs.Code.Wired.{wires_of}
use Rattle.blif_flat.proofs.expansion.wire_names.kept_names.Given as goal

abbrev pub invariant-loop-number : goal.invariant-loop-number
invariant-loop-number l = l.names ≡ kept_names 0 (wires_of (take l.number l.places))
