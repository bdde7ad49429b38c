use Rattle.std.proofs.Common.{◌≡◌, map, take, []}
use Rattle.std.specs.Prelude.{slice_index_or}
use Rattle.blif_flat.specs.Expansion.{wire, told_name}
use Rattle.blif_flat.specs.Code.Wired.{wires_of}
use Rattle.blif_flat.proofs.expansion.wire_names.told_names.Given as goal

abbrev pub invariant-loop-signal : goal.invariant-loop-signal
invariant-loop-signal l = l.names
    ≡ map (λ s. told_name (slice_index_or (wires_of l.places) s (wire 0 []))) (take l.signal-index l.signals)
